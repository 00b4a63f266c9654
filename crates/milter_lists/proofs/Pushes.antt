-- One entry more.
use Rattle.std.proofs.Common.{◌≡◌, ℕ, suc, ◌+◌, ◌-◌, ◌<◌, ◌≤◌, List, [], ◌∷◌, ◌++◌, length, take, drop, refl, arith, get_or, sym, ◌∙◌, ap, subst, length-append}
use Rattle.std.specs.List.{All}
use Rattle.std.proofs.Math.Seq.{drop-append_seam, take-length}
use Rattle.std.proofs.lemmas.List.{drop-append-le, take-append-le, length-drop, map-append}
use Rattle.std.proofs.lemmas.List.Elements.{All-append, All-cons, All-nil}
use Rattle.std.proofs.lemmas.List.Sums.{sum_by-append}
use Rattle.milter_lists.specs.declared.span.Span.{Span}
use Rattle.milter_lists.specs.Entries.{HasEntries, IsWithin, bytes_of, entries_of, entry_of}

-- an entry stays where bytes are appended
entry_stays : (bytes more : List ℕ) (span : Span) → IsWithin bytes span → entry_of (bytes ++ more) span ≡ entry_of bytes span
entry_stays bytes more span within =
    let starts : span.start ≤ length bytes = omega arith in
    let rest : length (drop span.start bytes) ≡ length bytes - span.start = length-drop span.start bytes in
    let ends : span.len ≤ length (drop span.start bytes) = omega (arith, rest) in
    ap (take span.len) (drop-append-le span.start bytes more starts)
    ∙ take-append-le span.len (drop span.start bytes) more ends

entries_stay : (bytes more : List ℕ) (spans : List Span) → All (IsWithin bytes) spans
    → entries_of (bytes ++ more) spans ≡ entries_of bytes spans
entries_stay bytes more [] all = refl
entries_stay bytes more (span ∷ spans) all =
    let first = entry_stays bytes more span (all 0 span (omega arith)) in
    let others = entries_stay bytes more spans (λ k d below. all (suc k) d (omega arith)) in
    ap (λ e. e ∷ entries_of (bytes ++ more) spans) first ∙ ap (λ es. entry_of bytes span ∷ es) others

-- the appended bytes are the new entry
entry_added : (bytes entry : List ℕ) → take (length entry) (drop (length bytes) (bytes ++ entry)) ≡ entry
entry_added bytes entry = ap (take (length entry)) (drop-append_seam bytes entry) ∙ take-length entry

abbrev span_of : List ℕ → List ℕ → Span
span_of bytes entry = record { key = 0; start = length bytes; len = length entry }

-- the entries with the new one
entries_added : (bytes entry : List ℕ) (spans : List Span) → All (IsWithin bytes) spans
    → entries_of (bytes ++ entry) (spans ++ span_of bytes entry ∷ []) ≡ entries_of bytes spans ++ entry ∷ []
entries_added bytes entry spans all =
    map-append (entry_of (bytes ++ entry)) spans (span_of bytes entry ∷ [])
    ∙ ap (λ es. es ++ entry_of (bytes ++ entry) (span_of bytes entry) ∷ []) (entries_stay bytes entry spans all)
    ∙ ap (λ e. entries_of bytes spans ++ e ∷ []) (entry_added bytes entry)

places_stay : (bytes more : List ℕ) (spans : List Span) → All (IsWithin bytes) spans
    → All (IsWithin (bytes ++ more)) spans
places_stay bytes more spans all k d below =
    let within : IsWithin bytes (get_or spans k d) = all k d below in
    let len : length (bytes ++ more) ≡ length bytes + length more = length-append bytes more in
    omega (arith, within, len)

-- and what a builder keeps of them
entries_kept : (bytes entry : List ℕ) (spans : List Span) → HasEntries bytes spans
    → length spans < 1000000 → length bytes + length entry ≤ 209715200
    → HasEntries (bytes ++ entry) (spans ++ span_of bytes entry ∷ [])
entries_kept bytes entry spans has few short =
    let len : length (bytes ++ entry) ≡ length bytes + length entry = length-append bytes entry in
    let count : length (spans ++ span_of bytes entry ∷ []) ≡ length spans + length (span_of bytes entry ∷ []) =
    length-append spans (span_of bytes entry ∷ []) in
    let sum : bytes_of (entries_of bytes spans ++ entry ∷ []) ≡ bytes_of (entries_of bytes spans) + bytes_of (entry ∷ []) =
    sum_by-append length (entries_of bytes spans) (entry ∷ []) in
    let old : bytes_of (entries_of bytes spans) ≡ length bytes = has.total in
    let all : bytes_of (entries_of (bytes ++ entry) (spans ++ span_of bytes entry ∷ [])) ≡ bytes_of (entries_of bytes spans ++ entry ∷ []) =
    ap bytes_of (entries_added bytes entry spans has.places) in
    let own : IsWithin (bytes ++ entry) (span_of bytes entry) = omega (arith, len) in
    record {
      places = All-append (IsWithin (bytes ++ entry)) spans (span_of bytes entry ∷ [])
          (places_stay bytes entry spans has.places)
          (All-cons (IsWithin (bytes ++ entry)) (span_of bytes entry) [] own (All-nil (IsWithin (bytes ++ entry))));
      total = omega (arith, len, sum, old, all);
      few = omega (arith, count, few);
      short = omega (arith, len, short);
    }

-- what is known once an entry was added
pub record IsPushed (bytes entry : List ℕ) (spans : List Span) (bytes' : List ℕ) (spans' : List Span) : Type 0 where
  pub kept : HasEntries bytes' spans'
  pub added : entries_of bytes' spans' ≡ entries_of bytes spans ++ entry ∷ []

pub pushed : (bytes entry bytes' : List ℕ) (spans spans' : List Span) (start : ℕ) → HasEntries bytes spans
    → length spans < 1000000 → length bytes + length entry ≤ 209715200
    → start ≡ length bytes → bytes' ≡ bytes ++ entry
    → spans' ≡ spans ++ record { key = 0; start = start; len = length entry } ∷ []
    → IsPushed bytes entry spans bytes' spans'
pushed bytes entry bytes' spans spans' start has few short start_is bytes_is spans_is =
    let span_is : spans' ≡ spans ++ span_of bytes entry ∷ [] =
    spans_is ∙ ap (λ s. spans ++ record { key = 0; start = s; len = length entry } ∷ []) start_is in
    let P : List ℕ → Type 0 = λ b. IsPushed bytes entry spans b spans' in
    let Q : List Span → Type 0 = λ s. IsPushed bytes entry spans (bytes ++ entry) s in
    subst P (sym bytes_is) (subst Q (sym span_is) record {
      kept = entries_kept bytes entry spans has few short;
      added = entries_added bytes entry spans has.places;
    })
