-- Which of a list pass a test, by their number among those that do.
use Rattle.std.specs.Prelude.{ℕ, suc, zero, Bool, List, [], ◌∷◌, Option, None, Some, if◌then◌else◌}

-- the position after one more
abbrev pub later : Option ℕ → Option ℕ
later None = None
later (Some position) = Some (suc position)

-- the position after so many more
abbrev pub shifted : ℕ → Option ℕ → Option ℕ
shifted zero found = found
shifted (suc n) found = later (shifted n found)

-- the position of the one with this number among those that pass, counted from 0
abbrev pub nth : {X : Type 0} → (X → Bool) → ℕ → List X → Option ℕ
nth test number [] = None
nth test zero (x ∷ xs) = if test x then Some zero else later (nth test zero xs)
nth test (suc number) (x ∷ xs) = if test x then later (nth test number xs) else later (nth test (suc number) xs)
