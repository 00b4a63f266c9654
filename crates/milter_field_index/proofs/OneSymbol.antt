-- Lists in which no other number than one occurs.
use Rattle.std.proofs.Common.{◌≡◌, ◌≢◌, ℕ, ◌<◌, ◌≤◌, ◌==◌, zero, suc, Bool, if◌then◌else◌, List, [], ◌∷◌, Some, length, take, refl, sym, ap, ◌∙◌, arith, inl, inr}
use Rattle.std.specs.List.{insert, remove}
use Rattle.std.proofs.lemmas.Bool.{cases_eq, eq-eqb, eqb-true, ne_eqb, false≢true}
use Rattle.std.proofs.lemmas.List.Sums.{sum_by-cons, sum_by-remove}
use Rattle.milter_field_index.specs.Blocks.{count_of}
use Rattle.milter_field_index.specs.Occurrence.{later, nth}
use Rattle.milter_field_index.specs.Symbols.{are_all, with_symbol, HasOnly, HasSymbols}
use Rattle.milter_field_index.specs.declared.symbols.Symbols.{Symbols}
use Rattle.milter_field_index.specs.declared.symbols.Symbols.TheVariants.{Absent, One, Several}
use Rattle.milter_field_index.proofs.Counts.{count-insert_other}
use Rattle.milter_field_index.proofs.Occurrences.{count-same, nth-first, nth-same}

first-same : (s x : ℕ) (xs : List ℕ) → HasOnly s (x ∷ xs) → x ≡ s
first-same s x xs only =
    elim (cases_eq x s) [
      | inl e ↦ e
      | inr ne ↦ absurd (omega (arith, only x ne, count-same (λ (y : ℕ). y == x) x xs (eq-eqb x x refl)))
    ]

rest-same : (s x : ℕ) (xs : List ℕ) → HasOnly s (x ∷ xs) → HasOnly s xs
rest-same s x xs only other ne =
    omega (arith, only other ne, sum_by-cons (λ (y : ℕ). if y == other then 1 else 0) x xs)

-- as many come before an index
pub count-only : (s : ℕ) (xs : List ℕ) (k : ℕ) → HasOnly s xs → k ≤ length xs → count_of s (take k xs) ≡ k
count-only s [] zero only h = refl
count-only s [] (suc k) only h = absurd (omega (arith, h))
count-only s (x ∷ xs) zero only h = refl
count-only s (x ∷ xs) (suc k) only h =
    let rest = count-only s xs k (rest-same s x xs only) (omega (arith, h)) in
    omega (arith, count-same (λ (y : ℕ). y == s) x (take k xs) (eq-eqb x s (first-same s x xs only)), rest)

-- the index of each is its number
pub nth-only : (s : ℕ) (xs : List ℕ) (n : ℕ) → HasOnly s xs → n < length xs → nth (λ x. x == s) n xs ≡ Some n
nth-only s [] n only h = absurd (omega (arith, h))
nth-only s (x ∷ xs) zero only h = nth-first (λ y. y == s) x xs (eq-eqb x s (first-same s x xs only))
nth-only s (x ∷ xs) (suc n) only h =
    nth-same (λ y. y == s) n x xs (eq-eqb x s (first-same s x xs only))
    ∙ ap later (nth-only s xs n (rest-same s x xs only) (omega (arith, h)))

-- one more is the same wherever it comes
insert-first : (s : ℕ) (xs : List ℕ) (k : ℕ) → HasOnly s xs → k ≤ length xs → insert xs k s ≡ s ∷ xs
insert-first s [] zero only h = refl
insert-first s [] (suc k) only h = absurd (omega (arith, h))
insert-first s (x ∷ xs) zero only h = refl
insert-first s (x ∷ xs) (suc k) only h =
    let is = first-same s x xs only in
    ap (λ l. x ∷ l) (insert-first s xs k (rest-same s x xs only) (omega (arith, h)))
    ∙ ap (λ y. y ∷ s ∷ xs) is ∙ ap (λ y. s ∷ y ∷ xs) (sym is)

pub insert-only : (s : ℕ) (xs : List ℕ) (k n : ℕ) → HasOnly s xs → k ≤ length xs → n ≤ length xs
    → insert xs k s ≡ insert xs n s
insert-only s xs k n only low high = insert-first s xs k only low ∙ sym (insert-first s xs n only high)

-- ---- the symbols that are known

pub symbols-inserted : (symbols : Symbols) (xs : List ℕ) (k s : ℕ) → HasSymbols symbols xs
    → HasSymbols (with_symbol s symbols) (insert xs k s)
symbols-inserted Absent xs k s has t e other ne =
    let different : other ≢ s = λ i. ne (i ∙ eqb-true s t e) in
    count-insert_other xs k s other different ∙ has s refl other different
symbols-inserted (One only) xs k s has t e other ne =
    elim (cases_eq only s) [
      | inl same ↦
          let still : only ≡ t = eqb-true only t (ap (are_all t) (sym (kept same)) ∙ e) in
          let different : other ≢ s = λ i. ne (i ∙ sym same ∙ still) in
          count-insert_other xs k s other different ∙ has t (eq-eqb only t still) other ne
      | inr differ ↦ absurd (false≢true (ap (are_all t) (sym (left differ)) ∙ e))
    ]
  where
    kept : only ≡ s → with_symbol s (One only) ≡ One only
    kept same = ap (λ (b : Bool). if b then One only else Several) (eq-eqb only s same)

    left : only ≢ s → with_symbol s (One only) ≡ Several
    left differ = ap (λ (b : Bool). if b then One only else Several) (ne_eqb only s differ)
symbols-inserted Several xs k s has t e other ne = absurd (false≢true e)

pub symbols-removed : (symbols : Symbols) (xs : List ℕ) (k : ℕ) → k < length xs → HasSymbols symbols xs
    → HasSymbols symbols (remove xs k)
symbols-removed symbols xs k within has t e other ne =
    omega (arith, sum_by-remove (λ (x : ℕ). if x == other then 1 else 0) xs k 0 within, has t e other ne)
