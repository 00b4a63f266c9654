-- What a search among sorted entries says.
use Rattle.std.proofs.Common.{◌≡◌, ℕ, zero, suc, ◌<◌, List, [], ◌∷◌, length, get_or, map, refl, arith, sym, ◌∙◌, subst, inl, inr}
use Rattle.std.specs.Prelude.{IsTrue, ◌↔◌, Result, Ok, Err, is_ok, true, false}
use Rattle.std.specs.FinMap.{nat_cmp-IsAntisymmetric, slice_cmp-IsAntisymmetric}
use Rattle.std.specs.Cmp.Lexicographic.{slice_cmp, nat_list_cmp_total}
use Rattle.std.specs.List.{Contains}
use Rattle.std.specs.List.Sorted.{IsSortedByKey, IsSearchInRange, IsBinarySearchResult, IsPartitionPoint}
use Rattle.std.specs.Ordering.{nat_cmp}
use Rattle.std.specs.declared.cmp.Ordering.TheVariants.{Less, Equal, Greater}
use Rattle.std.proofs.lemmas.Bool.{cases_lt}
use Rattle.std.proofs.lemmas.Cmp.{tied_itself}
use Rattle.std.proofs.lemmas.List.{length-map}
use Rattle.std.proofs.lemmas.List.Sorted.{searchable_from_sorted}
use Rattle.milter_lists.specs.declared.span.Span.{Span}
use Rattle.milter_lists.specs.Entries.{entry_of, entries_of}

get_mapped : {X Y : Type 0} (f : X → Y) (xs : List X) (k : ℕ) (d : X) (e : Y) → k < length xs
    → get_or (map f xs) k e ≡ f (get_or xs k d)
get_mapped f [] k d e below = absurd (omega arith)
get_mapped f (x ∷ xs) zero d e below = refl
get_mapped f (x ∷ xs) (suc k) d e below = get_mapped f xs k d e (omega arith)

nowhere : Span
nowhere = record { key = 0; start = 0; len = 0 }

not_true : false ≡ true → ⊥
not_true e = cc

not_less : Less ≡ Equal → ⊥
not_less e = cc

not_greater : Greater ≡ Equal → ⊥
not_greater e = cc

-- a text is none of the entries that are less or greater
nowhere_found : (bytes text : List ℕ) (spans : List Span) (i : ℕ)
    → IsPartitionPoint (λ span. slice_cmp nat_cmp (entry_of bytes span) text ≡ Less)
    (λ span. slice_cmp nat_cmp (entry_of bytes span) text ≡ Greater) spans i
    → ¬ (Contains (entries_of bytes spans) text)
nowhere_found bytes text spans i parts contains =
    let k = contains.0 in
    let below : k < length spans = rw (← length-map spans (entry_of bytes)) contains.1 in
    let entry = entry_of bytes (get_or spans k nowhere) in
    let same : entry ≡ text = sym (get_mapped (entry_of bytes) spans k nowhere text below) ∙ contains.2 in
    let P : List ℕ → Type 0 = λ e. slice_cmp nat_cmp e text ≡ Equal in
    let equal : slice_cmp nat_cmp entry text ≡ Equal = subst P (sym same) (tied_itself nat_list_cmp_total text) in
    elim (cases_lt k i) [
      | inl before ↦ not_less (sym (parts.0 k nowhere (omega arith) before) ∙ equal)
      | inr after ↦ not_greater (sym (parts.1 k nowhere after below) ∙ equal)
    ]

-- a text is found exactly where it is one of the entries
pub found_is_entry : (bytes text : List ℕ) (spans : List Span) (answer : Result ℕ ℕ)
    → IsSortedByKey (entry_of bytes) (slice_cmp nat_cmp) spans
    → IsSearchInRange answer (length spans)
    → IsBinarySearchResult (λ span. slice_cmp nat_cmp (entry_of bytes span) text) spans answer
    → IsTrue (is_ok answer) ↔ Contains (entries_of bytes spans) text
found_is_entry bytes text spans (Ok i) sorted below equal =
    let entry = entry_of bytes (get_or spans i nowhere) in
    let same : entry ≡ text = slice_cmp-IsAntisymmetric nat_cmp-IsAntisymmetric entry text (equal nowhere) in
    let within : i < length (entries_of bytes spans) = rw (length-map spans (entry_of bytes)) below in
    (λ _. (i, within, get_mapped (entry_of bytes) spans i nowhere text below ∙ same), λ _. refl)
found_is_entry bytes text spans (Err i) sorted within apart =
    let parts = apart (searchable_from_sorted nat_list_cmp_total (entry_of bytes) spans text sorted) in
    (λ no. absurd (not_true no), λ contains. absurd (nowhere_found bytes text spans i parts contains))
