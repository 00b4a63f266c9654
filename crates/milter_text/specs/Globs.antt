-- Patterns, and the values that they stand for.
use Rattle.std.specs.Prelude.{◌≡◌, ◌≢◌, ℕ, Bool, true, false, ◌==◌, ◌||◌, ◌&&◌, List, [], ◌∷◌, ◌++◌, if◌then◌else◌}
use Rattle.std.specs.List.{All}
use Rattle.std.specs.Char.{eq_ignore_ascii_case}
use Rattle.milter_text.specs.declared.glob.TextCase.{TextCase}
use Rattle.milter_text.specs.declared.glob.TextCase.TheVariants.{Exact, Ignored}
use Rattle.milter_text.specs.declared.glob.TheConstants.{ANY_BYTE, ANY_RUN}

-- two bytes are the same, or the same ASCII letter where case doesn't count
abbrev pub is_same : TextCase → ℕ → ℕ → Bool
is_same Exact first second = first == second
is_same Ignored first second = eq_ignore_ascii_case first second

-- a byte of a pattern that isn't `*` stands for a byte: `?` for any, another for itself
abbrev pub stands_for : TextCase → ℕ → ℕ → Bool
stands_for case symbol byte = symbol == ANY_BYTE || is_same case symbol byte

-- the first byte passes, and so do those after it
abbrev pub first_and_rest : (ℕ → Bool) → (List ℕ → Bool) → List ℕ → Bool
first_and_rest first rest [] = false
first_and_rest first rest (byte ∷ bytes) = first byte && rest bytes

-- some suffix of the bytes passes: all of them, or some suffix of those after the first
abbrev pub some_suffix : (List ℕ → Bool) → List ℕ → Bool
some_suffix test [] = test []
some_suffix test (byte ∷ bytes) = test (byte ∷ bytes) || some_suffix test bytes

-- A pattern stands for a value: one of no bytes for the value of no bytes; after `*` the rest of it for some suffix of
-- the value; after another byte, which stands for the first byte of the value, the rest of it for the bytes after that.
abbrev pub is_like : TextCase → List ℕ → List ℕ → Bool
is_like case [] [] = true
is_like case [] (byte ∷ bytes) = false
is_like case (symbol ∷ symbols) value =
    if symbol == ANY_RUN
    then some_suffix (is_like case symbols) value
    else first_and_rest (stands_for case symbol) (is_like case symbols) value

-- a value in two parts, of which the first pattern stands for the one and the second for the other
pub record IsJoined (case : TextCase) (first second value : List ℕ) : Type 0 where
  pub before : List ℕ
  pub after : List ℕ
  pub whole : value ≡ before ++ after
  pub first_like : is_like case first before ≡ true
  pub second_like : is_like case second after ≡ true

-- neither `*` nor `?` is in the text
abbrev pub IsPlain : List ℕ → Type 0
IsPlain text = All (λ byte. (byte ≢ ANY_RUN) × (byte ≢ ANY_BYTE)) text
