-- Numbers for the names of header fields: two names have the same number where they differ by case alone.
use Rattle.std.specs.Prelude.{◌≡◌, ℕ, ◌<◌, ◌≤◌, ◌==◌, ⊤, List, [], ◌∷◌, Option, None, Some, IsSome, map}
use Rattle.std.specs.Borrow.{Bor}
use Rattle.std.specs.BTreeMap.{BTreeMap, get_by}
use Rattle.std.specs.Cmp.Lexicographic.{slice_cmp}
use Rattle.std.specs.List.{All}
use Rattle.std.specs.Ordering.{nat_cmp}
use Rattle.std.specs.Str.{str_eq_ignore_ascii_case, str_to_ascii_lowercase}
use Rattle.milter_message.specs.declared.edit.Edit.{Edit}
use Rattle.milter_message.specs.declared.edit.Edit.TheVariants.{ChangeHeader}

-- the name, in lower case, of a field that an edit changes or deletes
abbrev pub changed_name : Edit → Option (List ℕ)
changed_name (ChangeHeader index header) = Some (str_to_ascii_lowercase header.name)
changed_name other = None

-- what the map has for a text
abbrev pub found : BTreeMap (Bor (List ℕ)) ℕ → List ℕ → Option ℕ
found numbers text = get_by (λ k. slice_cmp nat_cmp text k.now) numbers

abbrev pub number_or_zero : Option ℕ → ℕ
number_or_zero None = 0
number_or_zero (Some number) = number

-- the number of a name, in any case; 0 where it has none of its own
abbrev pub number_of : BTreeMap (Bor (List ℕ)) ℕ → List ℕ → ℕ
number_of numbers name = number_or_zero (found numbers (str_to_ascii_lowercase name))

-- the numbers of names in lower case, in their order
abbrev pub numbers_of : BTreeMap (Bor (List ℕ)) ℕ → List (List ℕ) → List ℕ
numbers_of numbers names = map (λ name. number_or_zero (found numbers name)) names

-- each of the names has a number, and no two have the same one
pub record HasNumbers (names : List (List ℕ)) (numbers : BTreeMap (Bor (List ℕ)) ℕ) : Type 0 where
  pub some : All (λ name. IsSome (found numbers name)) names
  pub positive : (name : List ℕ) (number : ℕ) → found numbers name ≡ Some number → 0 < number
  pub apart : (name other : List ℕ) (number : ℕ) → found numbers name ≡ Some number → found numbers other ≡ Some number
      → name ≡ other

-- the numbers go up to this one
abbrev pub AreUpTo : ℕ → BTreeMap (Bor (List ℕ)) ℕ → Type 0
AreUpTo most numbers = (name : List ℕ) (number : ℕ) → found numbers name ≡ Some number → number ≤ most

-- no other name has the number of this one
abbrev pub HasOwnNumber : BTreeMap (Bor (List ℕ)) ℕ → List ℕ → Type 0
HasOwnNumber numbers name = (other : List ℕ) →
    (number_of numbers other == number_of numbers name) ≡ str_eq_ignore_ascii_case other name

-- an edit finds the field that it changes by the number of its name
abbrev pub IsNumbered : BTreeMap (Bor (List ℕ)) ℕ → Edit → Type 0
IsNumbered numbers (ChangeHeader index header) = HasOwnNumber numbers header.name
IsNumbered numbers other = ⊤

-- this is the number of the name of the field that an edit changes
abbrev pub IsNumberFor : BTreeMap (Bor (List ℕ)) ℕ → ℕ → Edit → Type 0
IsNumberFor numbers number (ChangeHeader index header) = number ≡ number_of numbers header.name
IsNumberFor numbers number other = ⊤

-- the first number, and the others
abbrev pub first_or_zero : List ℕ → ℕ
first_or_zero [] = 0
first_or_zero (number ∷ others) = number

abbrev pub others : List ℕ → List ℕ
others [] = []
others (number ∷ numbers) = numbers

-- the number for an edit: where it changes a field, the first of those left
abbrev pub number_for : Edit → List ℕ → ℕ
number_for (ChangeHeader index header) left = first_or_zero left
number_for other left = 0

-- the numbers left after an edit
abbrev pub left_after : Edit → List ℕ → List ℕ
left_after (ChangeHeader index header) left = others left
left_after other left = left
