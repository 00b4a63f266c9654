-- What a search among ranges says.
use Rattle.std.proofs.Common.{◌≡◌, ℕ, ◌+◌, ◌<◌, ◌≤◌, false, List, length, get_or, arith, sym, ◌∙◌, inl, inr}
use Rattle.std.specs.Prelude.{nat_le}
use Rattle.std.specs.List.{All}
use Rattle.std.specs.List.Sorted.{IsPartitionedBy}
use Rattle.std.proofs.lemmas.Bool.{and_from, and_left, and_right, cases_lt, le-leb, leb-true, lt-leb}
use Rattle.std.proofs.lemmas.List.Folds.{list_any_at, list_any_none}
use Rattle.milter_lists.specs.declared.number_range.NumberRange.{NumberRange}
use Rattle.milter_lists.specs.Ranges.{AreRising, IsBegunCount, has_number, is_in}

pub none_begun : (n : ℕ) (xs : List NumberRange) → IsBegunCount n xs 0 → false ≡ has_number xs n
none_begun n xs parts =
    sym (list_any_none (is_in n) xs
    (λ k d below. and_left (nat_le (get_or xs k d).first n) (nat_le n (get_or xs k d).last) (parts.1 k d (omega arith) below)))

-- none has a number behind the last number of those that have begun
none_has : (n : ℕ) (xs : List NumberRange) (at : ℕ) → AreRising xs → at < length xs → IsBegunCount n xs (at + 1)
    → ((d : NumberRange) → (get_or xs at d).last < n) → All (λ range. is_in n range ≡ false) xs
none_has n xs at rising within parts ended k d below =
    elim (cases_lt at k) [
      | inl after ↦
          and_left (nat_le (get_or xs k d).first n) (nat_le n (get_or xs k d).last) (parts.1 k d (omega (arith, after)) below)
      | inr before ↦
          let last : (get_or xs k d).last ≤ (get_or xs at d).last = rising.lasts k at d before within in
          let end : (get_or xs at d).last < n = ended d in
          and_right (nat_le (get_or xs k d).first n) (nat_le n (get_or xs k d).last)
          (lt-leb n (get_or xs k d).last (omega (arith, last, end)))
    ]

-- the last one that has begun has the number, or none has
pub last_begun : (n : ℕ) (xs : List NumberRange) (at end : ℕ) → AreRising xs → at < length xs
    → IsBegunCount n xs (at + 1) → ((d : NumberRange) → (get_or xs at d).last ≡ end) → nat_le n end ≡ has_number xs n
last_begun n xs at end rising below parts is =
    let d : NumberRange = record { first = 0; last = 0 } in
    elim (cases_lt end n) [
      | inl after ↦
          lt-leb n end after
          ∙ sym (list_any_none (is_in n) xs
          (none_has n xs at rising below parts (λ e. let same = is e in omega (arith, same, after))))
      | inr within ↦
          let same = is d in
          le-leb n end within
          ∙ sym (list_any_at (is_in n) xs at d below
          (and_from (nat_le (get_or xs at d).first n) (nat_le n (get_or xs at d).last)
          (parts.0 at d (omega arith) (omega arith)) (le-leb n (get_or xs at d).last (omega (arith, same, within)))))
    ]

-- no range that has begun comes after one that hasn't
pub begun_first : (n : ℕ) (xs : List NumberRange) → AreRising xs → IsPartitionedBy (λ range. nat_le range.first n) xs
begun_first n xs rising i j d a b begun =
    let far : (get_or xs j d).first ≤ n = leb-true (get_or xs j d).first n begun in
    let near : (get_or xs i d).first ≤ (get_or xs j d).first = rising.firsts i j d a b in
    le-leb (get_or xs i d).first n (omega (arith, far, near))
