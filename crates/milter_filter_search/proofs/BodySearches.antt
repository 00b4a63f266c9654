-- A text that occurs in bytes occurs in the first of them, or begins so late that it is found without them.
use Rattle.std.proofs.Common.{◌≡◌, ◌∙◌, ◌≤◌, ◌+◌, ◌-◌, ◌⊎◌, ⊎_elim, inl, inr, ℕ, true, false, List, ◌++◌, length, take, drop, sym, ap, subst, arith, le_refl, append_assoc, length-append, take-append-drop, true≢false}
use Rattle.std.proofs.Math.Seq.{take-append-add, take-length}
use Rattle.std.proofs.lemmas.Bool.{cases_lt}
use Rattle.std.proofs.lemmas.List.{drop-append-le, length-drop}
use Rattle.milter_filter_search.specs.Searches.{BodySearch, HasRead, occurs_in, read_to_end}
use Rattle.milter_filter_search.specs.Texts.{contains, folded}
use Rattle.milter_filter_search.proofs.FoldedParts.{folded_drop, folded_length, folded_take}
use Rattle.milter_filter_search.proofs.Occurrences.{around_contained, contains_from, same_test}

contains_around : (bytes before text after : List ℕ) → bytes ≡ before ++ (text ++ after) → contains bytes text ≡ true
contains_around bytes before text after whole =
    subst (λ all. contains all text ≡ true) (sym whole) (contains_from before text after)

-- what has it with bytes before it
pub contains_after : (n : ℕ) (bytes text : List ℕ) → contains (drop n bytes) text ≡ true → contains bytes text ≡ true
contains_after n bytes text has =
    let around = around_contained (drop n bytes) text has in
    contains_around bytes (take n bytes ++ around.before) text around.after
    (sym (take-append-drop n bytes) ∙ ap (λ rest. take n bytes ++ rest) around.whole
    ∙ sym (append_assoc (take n bytes) around.before (text ++ around.after)))

-- what has it with bytes after it
pub contains_before : (n : ℕ) (bytes text : List ℕ) → contains (take n bytes) text ≡ true → contains bytes text ≡ true
contains_before n bytes text has =
    let around = around_contained (take n bytes) text has in
    contains_around bytes around.before text (around.after ++ drop n bytes)
    (sym (take-append-drop n bytes) ∙ ap (λ first. first ++ drop n bytes) around.whole
    ∙ append_assoc around.before (text ++ around.after) (drop n bytes)
    ∙ ap (λ rest. around.before ++ rest) (append_assoc text around.after (drop n bytes)))

early : (n : ℕ) (before text after : List ℕ) → length before + length text ≤ n
    → contains (take n (before ++ (text ++ after))) text ≡ true
early n before text after within =
    let both = before ++ text in
    let more = n - length both in
    let is : length both + more ≡ n = omega (arith, within, length-append before text) in
    contains_around (take n (before ++ (text ++ after))) before text (take more after)
    (ap (λ all. take n all) (sym (append_assoc before text after)) ∙ ap (λ k. take k (both ++ after)) (sym is)
    ∙ take-append-add both after more ∙ append_assoc before text (take more after))

late : (start : ℕ) (before text after : List ℕ) → start ≤ length before
    → contains (drop start (before ++ (text ++ after))) text ≡ true
late start before text after within =
    contains_around (drop start (before ++ (text ++ after))) (drop start before) text after
    (drop-append-le start before (text ++ after) within)

-- Where it doesn't occur in the first n bytes, it is found from a place on that is so far before their end as it is
-- long, or at their beginning.
pub contains_late : (n start : ℕ) (bytes text : List ℕ) → contains (take n bytes) text ≡ false
    → (start ≡ 0) ⊎ (start + length text ≤ n) → contains (drop start bytes) text ≡ contains bytes text
contains_late n start bytes text none far =
    same_test (contains (drop start bytes) text) (contains bytes text) (contains_after start bytes text)
    (λ has. let around = around_contained bytes text has in
    let before = around.before in
    let after = around.after in
    let is_late : start ≤ length before → contains (drop start bytes) text ≡ true = λ within.
    subst (λ all. contains (drop start all) text ≡ true) (sym around.whole) (late start before text after within) in
    let is_early : length before + length text ≤ n → contains (drop start bytes) text ≡ true = λ within.
    absurd (true≢false (sym (subst (λ all. contains (take n all) text ≡ true) (sym around.whole) (early n before text after within)) ∙ none)) in
    ⊎_elim (λ zero. is_late (omega (arith, zero)))
    (λ distance. ⊎_elim (λ less. is_early (omega (arith, distance, less))) is_late (cases_lt (length before) start)) far)

pub read_before : (s : BodySearch) (bytes : List ℕ) → HasRead bytes s → s.found ≡ true → occurs_in s bytes ≡ true
read_before s bytes (within, says) found =
    contains_before s.looked (folded s.case bytes) (folded s.case s.text)
    (ap (λ first. contains first (folded s.case s.text)) (sym (folded_take s.case s.looked bytes)) ∙ sym says ∙ found)

-- the rest from this place on is read
pub read_late : (s : BodySearch) (bytes : List ℕ) (start : ℕ) → HasRead bytes s → s.found ≡ false
    → (start ≡ 0) ⊎ (start + length s.text ≤ s.looked) → occurs_in s (drop start bytes) ≡ occurs_in s bytes
read_late s bytes start (within, says) none far =
    ap (λ rest. contains rest (folded s.case s.text)) (folded_drop s.case start bytes)
    ∙ contains_late s.looked start (folded s.case bytes) (folded s.case s.text)
    (ap (λ first. contains first (folded s.case s.text)) (sym (folded_take s.case s.looked bytes)) ∙ sym says ∙ none)
    (subst (λ k. (start ≡ 0) ⊎ (start + k ≤ s.looked)) (sym (folded_length s.case s.text)) far)

pub far_enough : (n k : ℕ) → (n - k ≡ 0) ⊎ (n - k + k ≤ n)
far_enough n k = ⊎_elim (λ less. inl (omega (arith, less))) (λ enough. inr (omega (arith, enough))) (cases_lt n k)

pub read_all : (s : BodySearch) (bytes : List ℕ) → HasRead bytes (read_to_end bytes s)
read_all s bytes = (le_refl (length bytes), ap (occurs_in s) (sym (take-length bytes)))

-- what a slice from a place on has
pub bytes_after : (n : ℕ) (bytes : List ℕ) → take (length bytes - n) (drop n bytes) ≡ drop n bytes
bytes_after n bytes = ap (λ k. take k (drop n bytes)) (sym (length-drop n bytes)) ∙ take-length (drop n bytes)
