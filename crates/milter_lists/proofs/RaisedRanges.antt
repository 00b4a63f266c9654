-- Ranges of which each ends where some range up to it ends last: the same numbers, and neither end falls.
use Rattle.std.proofs.Common.{◌≡◌, ℕ, zero, suc, ◌<◌, ◌≤◌, Bool, true, false, List, [], ◌∷◌, length, get_or, refl, arith, sym, true≢false, ◌∙◌, ap, subst, ◌⊎◌, inl, inr}
use Rattle.std.specs.Prelude.{max, nat_le}
use Rattle.std.specs.List.Sorted.{IsNonDecreasingBy, IsSortedByKey}
use Rattle.std.specs.Cmp.{nat_cmp_is}
use Rattle.std.specs.Ordering.{is_lt, nat_cmp}
use Rattle.std.specs.declared.cmp.Ordering.TheVariants.{Less}
use Rattle.std.proofs.lemmas.Bool.{and_from, and_parts, cases_lt, le-leb, leb-true, or_cases, or_left, or_right}
use Rattle.std.proofs.lemmas.Cmp.{nat_cmp_total}
use Rattle.std.proofs.lemmas.List.Folds.{list_any_at}
use Rattle.std.proofs.lemmas.List.Sorted.{ranks_by, sorted_far}
use Rattle.milter_lists.specs.declared.number_range.NumberRange.{NumberRange}
use Rattle.milter_lists.specs.Ranges.{AreRising, has_number, is_in, raised}

-- ---- ranges in the order of their first numbers

not_less : (a b : ℕ) → is_lt (nat_cmp a b) ≡ false → b ≤ a
not_less a b e =
    elim (cases_lt a b) [
      | inl less ↦ absurd (true≢false (ap is_lt (nat_cmp_is a b Less less) ∙ e))
      | inr other ↦ other
    ]

pub firsts_rise : (xs : List NumberRange) → IsSortedByKey (λ range. range.first) nat_cmp xs
    → IsNonDecreasingBy (λ range. range.first) xs
firsts_rise xs sorted i j d a b =
    not_less (get_or xs j d).first (get_or xs i d).first
    (sorted_far _ (ranks_by nat_cmp_total (λ (range : NumberRange). range.first)) xs sorted i j d a b)

-- ---- how many there are, and how they rise

pub raised_len : (end : ℕ) (xs : List NumberRange) → length (raised end xs) ≡ length xs
raised_len end [] = refl
raised_len end (x ∷ xs) = ap suc (raised_len (max x.last end) xs)

raised_first : (end : ℕ) (xs : List NumberRange) (k : ℕ) (d : NumberRange)
    → (get_or (raised end xs) k d).first ≡ (get_or xs k d).first
raised_first end [] k d = refl
raised_first end (x ∷ xs) zero d = refl
raised_first end (x ∷ xs) (suc k) d = raised_first (max x.last end) xs k d

raised_from : (end : ℕ) (xs : List NumberRange) (k : ℕ) (d : NumberRange) → k < length xs
    → end ≤ (get_or (raised end xs) k d).last
raised_from end [] k d below = absurd (omega arith)
raised_from end (x ∷ xs) zero d below = omega arith
raised_from end (x ∷ xs) (suc k) d below =
    let more : max x.last end ≤ (get_or (raised (max x.last end) xs) k d).last =
    raised_from (max x.last end) xs k d (omega arith) in
    omega (arith, more)

raised_lasts : (end : ℕ) (xs : List NumberRange) (i j : ℕ) (d : NumberRange) → i ≤ j → j < length xs
    → (get_or (raised end xs) i d).last ≤ (get_or (raised end xs) j d).last
raised_lasts end [] i j d a b = absurd (omega arith)
raised_lasts end (x ∷ xs) zero zero d a b = omega arith
raised_lasts end (x ∷ xs) zero (suc j) d a b = raised_from (max x.last end) xs j d (omega arith)
raised_lasts end (x ∷ xs) (suc i) zero d a b = absurd (omega arith)
raised_lasts end (x ∷ xs) (suc i) (suc j) d a b =
    raised_lasts (max x.last end) xs i j d (omega arith) (omega arith)

pub raised_rise : (end : ℕ) (xs : List NumberRange) → IsNonDecreasingBy (λ range. range.first) xs
    → AreRising (raised end xs)
raised_rise end xs rises = record {
  firsts = λ i j d a b.
      rw (raised_first end xs i d, raised_first end xs j d)
      (rises i j d a (subst (λ n. j < n) (raised_len end xs) b));
  lasts = λ i j d a b. raised_lasts end xs i j d a (subst (λ n. j < n) (raised_len end xs) b);
}

-- ---- the numbers

in_range : (n : ℕ) (x : NumberRange) → x.first ≤ n → n ≤ x.last → is_in n x ≡ true
in_range n x a b = and_from (nat_le x.first n) (nat_le n x.last) (le-leb x.first n a) (le-leb n x.last b)

-- a number that is above the first of some range, and not above `end`
record IsUpTo (xs : List NumberRange) (end n : ℕ) : Type 0 where
  place : ℕ
  below : place < length xs
  begun : (d : NumberRange) → (get_or xs place d).first ≤ n
  ended : n ≤ end

into_raised : (end : ℕ) (xs : List NumberRange) (n : ℕ) → has_number xs n ≡ true → has_number (raised end xs) n ≡ true
into_raised end [] n e = e
into_raised end (x ∷ xs) n e =
    elim (or_cases (is_in n x) (has_number xs n) e) [
      | inl here ↦
          let parts = and_parts (nat_le x.first n) (nat_le n x.last) here in
          let from = leb-true x.first n parts.0 in
          let to = leb-true n x.last parts.1 in
          or_left (is_in n (record { first = x.first; last = max x.last end })) (has_number (raised (max x.last end) xs) n)
          (in_range n (record { first = x.first; last = max x.last end }) from (omega (arith, to)))
      | inr there ↦
          or_right (is_in n (record { first = x.first; last = max x.last end })) (has_number (raised (max x.last end) xs) n)
          (into_raised (max x.last end) xs n there)
    ]

out_of_raised : (end : ℕ) (xs : List NumberRange) (n : ℕ) → IsNonDecreasingBy (λ range. range.first) xs
    → has_number (raised end xs) n ≡ true → (has_number xs n ≡ true) ⊎ IsUpTo xs end n
out_of_raised end [] n rises e = inl e
out_of_raised end (x ∷ xs) n rises e =
    elim (or_cases (is_in n (record { first = x.first; last = max x.last end })) (has_number (raised (max x.last end) xs) n) e) [
      | inl here ↦
          let parts = and_parts (nat_le x.first n) (nat_le n (max x.last end)) here in
          let from : x.first ≤ n = leb-true x.first n parts.0 in
          let to : n ≤ max x.last end = leb-true n (max x.last end) parts.1 in
          elim (cases_lt x.last n) [
            | inl above ↦ inr record { place = 0; below = omega arith; begun = λ d. from; ended = omega (arith, to, above) }
            | inr within ↦ inl (or_left (is_in n x) (has_number xs n) (in_range n x from within))
          ]
      | inr there ↦
          elim (out_of_raised (max x.last end) xs n (λ i j d a b. rises (suc i) (suc j) d (omega arith) (omega arith)) there) [
            | inl had ↦ inl (or_right (is_in n x) (has_number xs n) had)
            | inr up ↦
                let from : x.first ≤ n =
                (let a : x.first ≤ (get_or xs up.place x).first = rises 0 (suc up.place) x (omega arith) (omega (arith, up.below)) in
                let b = up.begun x in omega (arith, a, b)) in
                elim (cases_lt x.last n) [
                  | inl above ↦ inr record {
                    place = suc up.place;
                    below = omega (arith, up.below);
                    begun = λ d. up.begun d;
                    ended = omega (arith, up.ended, above);
                  }
                  | inr within ↦ inl (or_left (is_in n x) (has_number xs n) (in_range n x from within))
                ]
          ]
    ]

-- a range that begins at 0 has it
none_up_to : (xs : List NumberRange) (n : ℕ) → IsUpTo xs 0 n → has_number xs n ≡ true
none_up_to xs n up =
    let d : NumberRange = record { first = 0; last = 0 } in
    list_any_at (is_in n) xs up.place d up.below
    (in_range n (get_or xs up.place d) (up.begun d) (omega (arith, up.ended)))

pub raised_has : (xs : List NumberRange) (n : ℕ) → IsNonDecreasingBy (λ range. range.first) xs
    → has_number (raised 0 xs) n ≡ has_number xs n
raised_has xs n rises =
    same_test (has_number (raised 0 xs) n) (has_number xs n)
    (λ e. elim (out_of_raised 0 xs n rises e) [
      | inl had ↦ had
      | inr up ↦ none_up_to xs n up
    ])
    (into_raised 0 xs n)
  where
    same_test : (a b : Bool) → (a ≡ true → b ≡ true) → (b ≡ true → a ≡ true) → a ≡ b
    same_test true b to from = sym (to refl)
    same_test false true to from = from refl
    same_test false false to from = refl
