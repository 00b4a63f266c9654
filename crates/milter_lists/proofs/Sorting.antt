-- Spans in the order of keys and entries are in the order of entries.
use Rattle.std.proofs.Common.{◌≡◌, ℕ, zero, suc, ◌+◌, ◌<◌, List, [], ◌∷◌, length, get_or, take, drop, refl, arith, sym, ◌∙◌, ap, subst}
use Rattle.std.specs.Prelude.{false, true}
use Rattle.std.specs.Cmp.Lexicographic.{slice_cmp, nat_list_cmp_total}
use Rattle.std.specs.List.{All}
use Rattle.std.specs.List.Sorted.{IsPermutation, IsSortedBy, IsSortedByKey}
use Rattle.std.specs.Ordering.{is_lt, nat_cmp, ordering_reverse, ordering_then}
use Rattle.std.specs.declared.cmp.Ordering.TheVariants.{Less}
use Rattle.std.proofs.lemmas.Cmp.{by_ranked, ranked}
use Rattle.std.proofs.lemmas.List.{get_or-map, length-map}
use Rattle.std.proofs.lemmas.List.Elements.{All-map}
use Rattle.std.proofs.lemmas.List.Sorted.{All-permutation}
use Rattle.milter_lists.specs.declared.span.Span.{Span}
use Rattle.milter_lists.specs.Entries.{entries_of, entry_of}
use Rattle.milter_lists.specs.Keys.{AreKeyed, BeginWith, key_of, keyed_cmp, number_from}
use Rattle.milter_lists.proofs.Keys.{AreBytes, cmp_behind, less_by_key, no_bytes}

bytes_behind : (n : ℕ) (xs : List ℕ) → AreBytes xs → AreBytes (drop n xs)
bytes_behind zero xs bytes = bytes
bytes_behind (suc n) [] bytes = bytes
bytes_behind (suc n) (x ∷ xs) bytes = bytes_behind n xs (λ k. bytes (suc k))

bytes_before : (n : ℕ) (xs : List ℕ) → AreBytes xs → AreBytes (take n xs)
bytes_before zero xs bytes k = no_bytes k
bytes_before (suc n) [] bytes k = no_bytes k
bytes_before (suc n) (x ∷ xs) bytes zero = bytes 0
bytes_before (suc n) (x ∷ xs) bytes (suc k) = bytes_before n xs (λ j. bytes (suc j)) k

entry_bytes : (bytes : List ℕ) (span : Span) → AreBytes bytes → AreBytes (entry_of bytes span)
entry_bytes bytes span all = bytes_before span.len (drop span.start bytes) (bytes_behind span.start bytes all)

-- a text does not come before one that begins alike, where its key and it do not
not_before : (n : ℕ) (xs ys : List ℕ) (i j : ℕ) → AreBytes xs → AreBytes ys → take n xs ≡ take n ys
    → i ≡ key_of (drop n xs) → j ≡ key_of (drop n ys)
    → is_lt (ordering_then (nat_cmp i j) (slice_cmp nat_cmp xs ys)) ≡ false → is_lt (slice_cmp nat_cmp xs ys) ≡ false
not_before n xs ys i j bytes_x bytes_y same key_x key_y not =
    let rest = slice_cmp nat_cmp xs ys in
    by_ranked (i < j) (i ≡ j) (j < i) (nat_cmp i j) (ranked i j (nat_cmp i j) refl)
    (λ e below.
    let is_less : is_lt (ordering_then (nat_cmp i j) rest) ≡ true = ap (λ first. is_lt (ordering_then first rest)) e in
    absurd (cc))
    (λ e tied. sym (ap (λ first. is_lt (ordering_then first rest)) e) ∙ not)
    (λ e above.
    let keys : number_from 0 (drop n ys) 8 < number_from 0 (drop n xs) 8 = omega arith in
    let less : slice_cmp nat_cmp (drop n ys) (drop n xs) ≡ Less =
    less_by_key 8 0 (drop n ys) (drop n xs) (bytes_behind n ys bytes_y) (bytes_behind n xs bytes_x) keys in
    ap is_lt (cmp_behind n xs ys same ∙ nat_list_cmp_total.antisymm (drop n xs) (drop n ys) ∙ ap ordering_reverse less))

-- what all entries begin with does not depend on their order
pub begin_stays : (bytes prefix : List ℕ) (before after : List Span)
    → IsPermutation (entries_of bytes before) (entries_of bytes after) → BeginWith bytes prefix before
    → BeginWith bytes prefix after
begin_stays bytes prefix before after moved begin k d below =
    let P : List ℕ → Type 0 = λ entry. take (length prefix) entry ≡ prefix in
    let all : All P (entries_of bytes after) =
    All-permutation P (entries_of bytes before) (entries_of bytes after) moved (All-map P (entry_of bytes) before begin) in
    let within : k < length (entries_of bytes after) = rw (length-map after (entry_of bytes)) below in
    subst P (get_or-map (entry_of bytes) after k d [] below) (all k [] within)

pub sorted_by_entry : (bytes prefix : List ℕ) (spans : List Span) → AreBytes bytes → BeginWith bytes prefix spans
    → AreKeyed bytes (length prefix) spans → IsSortedBy (λ a b. is_lt (keyed_cmp bytes a b)) spans
    → IsSortedByKey (entry_of bytes) (slice_cmp nat_cmp) spans
sorted_by_entry bytes prefix spans all begin keyed sorted k d low high =
    let a = get_or spans (k + 1) d in
    let b = get_or spans k d in
    let in_a : k + 1 < length spans = high in
    let in_b : k < length spans = omega arith in
    not_before (length prefix) (entry_of bytes a) (entry_of bytes b) a.key b.key
    (entry_bytes bytes a all) (entry_bytes bytes b all) (begin (k + 1) d in_a ∙ sym (begin k d in_b))
    (keyed (k + 1) d in_a) (keyed k d in_b) (sorted k d low high)
