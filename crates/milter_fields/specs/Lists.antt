-- Lists that are borrowed: those of a payload, which are decoded as they are gone over, and those that were made.
use Rattle.std.specs.Prelude.{List, [], ◌∷◌, Option, None, Some}

-- a list that was decoded, or none
abbrev pub decoded : {A : Type 0} → Option (List A) → List A
decoded None = []
decoded (Some xs) = xs

-- the first of a list, and the others
abbrev pub first_of : {A : Type 0} → List A → Option (A × List A)
first_of [] = None
first_of (x ∷ xs) = Some (x, xs)
