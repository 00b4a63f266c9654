-- Where lines may end.
use Rattle.std.proofs.Common.{◌≡◌, ℕ, ◌+◌, ◌<◌, Bool, true, false, ◌||◌, ◌&&◌, List, [], ◌∷◌, length, drop, get_or, arith, refl, sym, ap, ◌∙◌, ⊎_elim, le_of_eq, drop_of_length-le}
use Rattle.std.proofs.lemmas.Bool.{cases_Bool}
use Rattle.std.proofs.lemmas.List.{drop_more}
use Rattle.milter_mta_client.specs.Patterns.{is_gap, stand_for}
use Rattle.milter_mta_client.specs.Places.{any_open}
use Rattle.milter_mta_client.specs.Steps.{stays_at}
use Rattle.milter_mta_client.proofs.Advance.{either, or_none}

-- whether lines may end at the places from here, of which the first is open by a gap before it
abbrev pub ends_from : Bool → List Bool → List (List ℕ) → Bool
ends_from stays places patterns = (stays && stand_for patterns []) || any_open places patterns []

over_gap : (could rest others : Bool) → ((could && rest) || others) ≡ (((could && true) && rest) || others)
over_gap true rest others = refl
over_gap false rest others = refl

over_line : (could rest others : Bool) → ((could && false) || others) ≡ (((could && false) && rest) || others)
over_line true rest others = refl
over_line false rest others = refl

pub ends_over : (stays is_open : Bool) (places : List Bool) (pattern : List ℕ) (patterns : List (List ℕ)) →
    ends_from stays (is_open ∷ places) (pattern ∷ patterns) ≡ ends_from (stays_at stays is_open pattern) places patterns
ends_over stays is_open places pattern patterns =
    either stays is_open (stand_for (pattern ∷ patterns) []) (any_open places patterns [])
    ∙ ⊎_elim
    (λ (gap : is_gap pattern ≡ true). rw gap (over_gap (is_open || stays) (stand_for patterns []) (any_open places patterns [])))
    (λ (other : is_gap pattern ≡ false).
    rw other (over_line (is_open || stays) (stand_for patterns []) (any_open places patterns [])))
    (cases_Bool (is_gap pattern))

-- the same at the place with this index, in the list of all
pub ends_at : (stays : Bool) (places : List Bool) (patterns : List (List ℕ)) (index : ℕ) →
    index < length places → index < length patterns →
    ends_from stays (drop index places) (drop index patterns)
    ≡ ends_from (stays_at stays (get_or places index false) (get_or patterns index []))
    (drop (index + 1) places) (drop (index + 1) patterns)
ends_at stays places patterns index within among =
    ap (λ behind. ends_from stays behind (drop index patterns)) (drop_more places index false within)
    ∙ ap (λ rest. ends_from stays (get_or places index false ∷ drop (index + 1) places) rest) (drop_more patterns index [] among)
    ∙ ends_over stays (get_or places index false) (drop (index + 1) places) (get_or patterns index []) (drop (index + 1) patterns)

swapped : (x y : Bool) → ((x && true) || (y && true)) ≡ (y || x)
swapped true true = refl
swapped true false = refl
swapped false true = refl
swapped false false = refl

-- behind the last pattern
pub ends_last : (stays : Bool) (places : List Bool) (patterns : List (List ℕ)) → length places ≡ length patterns + 1 →
    ends_from stays (drop (length patterns) places) (drop (length patterns) patterns)
    ≡ (get_or places (length patterns) false || stays)
ends_last stays places patterns sizes =
    let end : ℕ = length patterns in
    let within : end < length places = omega (arith, sizes) in
    ap (λ rest. ends_from stays (drop end places) rest) (drop_of_length-le patterns (le_of_eq refl))
    ∙ ap (λ behind. ends_from stays behind []) (drop_more places end false within)
    ∙ swapped stays (get_or places end false)
