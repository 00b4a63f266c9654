-- The bytes of a pattern between one `*` and the next.
use Rattle.std.specs.Prelude.{◌≡◌, ◌≢◌, ℕ, ◌+◌, ◌<◌, ◌++◌, Bool, true, List, [], ◌∷◌, length, take, drop, Option, Some, None, if◌then◌else◌}
use Rattle.std.specs.List.{All}
use Rattle.milter_text.specs.declared.glob.TextCase.{TextCase}
use Rattle.milter_text.specs.declared.glob.TheConstants.{ANY_RUN}
use Rattle.milter_text.specs.Globs.{first_and_rest, stands_for}

-- no byte is `*`
abbrev pub IsSegment : List ℕ → Type 0
IsSegment segment = All (λ byte. byte ≢ ANY_RUN) segment

-- the first `*` of a pattern is at this place, and a segment before it
pub record IsFirstRun (pattern : List ℕ) (end : ℕ) : Type 0 where
  pub within : end < length pattern
  pub before : IsSegment (take end pattern)
  pub whole : pattern ≡ take end pattern ++ (ANY_RUN ∷ drop (end + 1) pattern)

-- each byte of the segment stands for the byte of the value in its place
abbrev pub begins_with : TextCase → List ℕ → List ℕ → Bool
begins_with case [] value = true
begins_with case (symbol ∷ symbols) value = first_and_rest (stands_for case symbol) (begins_with case symbols) value

-- the bytes after the leftmost that the segment stands for
abbrev pub after_first : TextCase → List ℕ → List ℕ → Option (List ℕ)
after_first case segment [] = if begins_with case segment [] then Some [] else None
after_first case segment (byte ∷ bytes) =
    if begins_with case segment (byte ∷ bytes)
    then Some (drop (length segment) (byte ∷ bytes))
    else after_first case segment bytes
