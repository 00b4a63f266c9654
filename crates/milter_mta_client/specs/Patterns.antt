-- Expected reports, line by line, and the reports that they stand for.
use Rattle.std.specs.Prelude.{◌≡◌, ◌<◌, ◌≤◌, ◌+◌, ◌++◌, ℕ, Bool, true, false, ◌||◌, ◌&&◌, List, [], ◌∷◌, length, take, drop, codes, if◌then◌else◌}
use Rattle.std.specs.Str.{bytes_eq}
use Rattle.milter_text.specs.Globs.{is_like}
use Rattle.milter_text.specs.declared.glob.TextCase.TheVariants.{Exact}

-- the line of any lines, without its LF, and what a line begins with that has a pattern
abbrev pub gap : List ℕ
gap = codes "..."

abbrev pub like : List ℕ
like = codes "like "

abbrev pub is_gap : List ℕ → Bool
is_gap pattern = bytes_eq pattern (gap ++ 10 ∷ []) || bytes_eq pattern gap

-- a line with a pattern stands for each line that is like it, and another for itself
abbrev pub stands_for : List ℕ → List ℕ → Bool
stands_for pattern line =
    if bytes_eq (take (length like) pattern) like
    then is_like Exact (drop (length like) pattern) line
    else bytes_eq pattern line

-- some suffix of the lines passes: all of them, or some suffix of those after the first
abbrev pub some_suffix : (List (List ℕ) → Bool) → List (List ℕ) → Bool
some_suffix test [] = test []
some_suffix test (line ∷ lines) = test (line ∷ lines) || some_suffix test lines

-- the first line passes, and so do those after it
abbrev pub first_and_rest : (List ℕ → Bool) → (List (List ℕ) → Bool) → List (List ℕ) → Bool
first_and_rest first rest [] = false
first_and_rest first rest (line ∷ lines) = first line && rest lines

-- Patterns stand for lines: none for no lines; after the line of any lines the rest of them for some suffix of the
-- lines; after another, which stands for the first line, the rest of them for the lines after that.
abbrev pub stand_for : List (List ℕ) → List (List ℕ) → Bool
stand_for [] [] = true
stand_for [] (line ∷ lines) = false
stand_for (pattern ∷ patterns) lines =
    if is_gap pattern
    then some_suffix (stand_for patterns) lines
    else first_and_rest (stands_for pattern) (stand_for patterns) lines

-- some lines may follow these, so that the patterns stand for all
abbrev pub GoesOn : List (List ℕ) → List (List ℕ) → Type 0
GoesOn patterns lines = (more : List (List ℕ)) × (stand_for patterns (lines ++ more) ≡ true)

-- The first line, counted from 0, with which lines aren't what the patterns stand for: those before it may go on so,
-- and with it they can't, or it is the end of the lines, where more are due.
pub record IsFirstDifference (patterns lines : List (List ℕ)) (place : ℕ) : Type 0 where
  pub within : place ≤ length lines
  pub before : GoesOn patterns (take place lines)
  pub differs : place < length lines → GoesOn patterns (take (place + 1) lines) → ⊥
  pub other : stand_for patterns lines ≡ false
