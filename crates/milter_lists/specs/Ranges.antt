-- The numbers of ranges.
use Rattle.std.specs.Prelude.{ℕ, Bool, ◌≡◌, true, false, ◌&&◌, nat_le, max, List, [], ◌∷◌}
use Rattle.std.specs.List.{list_any}
use Rattle.std.specs.List.Sorted.{IsNonDecreasingBy, IsPartitionPoint}
use Rattle.milter_lists.specs.declared.number_range.NumberRange.{NumberRange}

abbrev pub is_in : ℕ → NumberRange → Bool
is_in number range = nat_le range.first number && nat_le number range.last

-- the number is in one of the ranges
abbrev pub has_number : List NumberRange → ℕ → Bool
has_number ranges number = list_any (is_in number) ranges

-- neither the first nor the last numbers fall
pub record AreRising (ranges : List NumberRange) : Type 0 where
  pub firsts : IsNonDecreasingBy (λ range. range.first) ranges
  pub lasts : IsNonDecreasingBy (λ range. range.last) ranges

-- so many ranges begin at the number or before it, and the others behind it
abbrev pub IsBegunCount : ℕ → List NumberRange → ℕ → Type 0
IsBegunCount number ranges count =
    IsPartitionPoint (λ range. nat_le range.first number ≡ true) (λ range. nat_le range.first number ≡ false)
    ranges count

-- the ranges, each up to the last number of all up to it and of those before, which end at `end`
abbrev pub raised : ℕ → List NumberRange → List NumberRange
raised end [] = []
raised end (range ∷ ranges) =
    record { first = range.first; last = max range.last end } ∷ raised (max range.last end) ranges
