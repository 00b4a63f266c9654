-- How the places that are open go on by a line.
use Rattle.std.proofs.Common.{◌≡◌, ℕ, ◌≤◌, ◌+◌, ◌<◌, Bool, true, false, not, ◌||◌, ◌&&◌, List, [], ◌∷◌, ◌++◌, length, take, drop, set, get_or}
use Rattle.std.proofs.Common.{arith, refl, sym, ap, ap₂, subst, ◌∙◌, ⊎_elim, not-suc-le-zero, le_of_suc-le-suc, le_of_lt, le_of_eq, length-take-le, length-set, drop_of_length-le}
use Rattle.std.proofs.lemmas.Bool.{cases_Bool}
use Rattle.std.proofs.lemmas.List.{drop_more, drop-set-lt, take_all, take_more_set}
use Rattle.milter_mta_client.specs.declared.places.Step.{Step}
use Rattle.milter_mta_client.specs.Patterns.{first_and_rest, is_gap, some_suffix, stand_for, stands_for}
use Rattle.milter_mta_client.specs.Places.{any_open}
use Rattle.milter_mta_client.specs.Steps.{step_over}

joined : (x y z : Bool) → (x || (y || z)) ≡ ((x || y) || z)
joined true y z = refl
joined false y z = refl

pub or_none : (x : Bool) → (x || false) ≡ x
or_none true = refl
or_none false = refl

-- one place more is one that lines may go on from
pub any_open-append : (before : List Bool) (place : Bool) (patterns lines : List (List ℕ)) → length before ≤ length patterns →
    any_open (before ++ place ∷ []) patterns lines
    ≡ (any_open before patterns lines || (place && stand_for (drop (length before) patterns) lines))
any_open-append [] place [] lines within = refl
any_open-append [] place (pattern ∷ patterns) lines within = or_none (place && stand_for (pattern ∷ patterns) lines)
any_open-append (first ∷ before) place [] lines within = absurd (not-suc-le-zero within)
any_open-append (first ∷ before) place (pattern ∷ patterns) lines within =
    ap (λ others. (first && stand_for (pattern ∷ patterns) lines) || others)
    (any_open-append before place patterns lines (le_of_suc-le-suc within))
    ∙ joined (first && stand_for (pattern ∷ patterns) lines) (any_open before patterns lines)
    (place && stand_for (drop (length before) patterns) lines)

pub either : (stays was_open passes others : Bool) →
    ((stays && passes) || ((was_open && passes) || others)) ≡ (((was_open || stays) && passes) || others)
either false false passes others = refl
either false true passes others = refl
either true false passes others = refl
either true true true others = refl
either true true false others = refl

-- a place that could go on, before a gap: it stays, and so does the one behind it
over_gap : (could leads is_like stays_open after others beyond : Bool) →
    ((leads && stays_open) || ((could && (after || stays_open)) || others))
    ≡ ((((could && true) || leads) && stays_open)
    || (((could && (false && is_like)) && beyond) || (((could && true) && after) || others)))
over_gap false leads is_like stays_open after others beyond = refl
over_gap true true is_like true after others beyond = refl
over_gap true true is_like false true others beyond = refl
over_gap true true is_like false false others beyond = refl
over_gap true false is_like true true others beyond = refl
over_gap true false is_like true false others beyond = refl
over_gap true false is_like false true others beyond = refl
over_gap true false is_like false false others beyond = refl

-- before another pattern: the line leads on where it is what that stands for
over_line : (could leads is_like stays_open after others beyond : Bool) →
    ((leads && stays_open) || ((could && (is_like && beyond)) || others))
    ≡ ((((could && false) || leads) && stays_open)
    || (((could && (true && is_like)) && beyond) || (((could && false) && after) || others)))
over_line false leads is_like stays_open after others beyond = refl
over_line true leads is_like stays_open after others beyond = refl

-- whether lines may follow one line: from places before that are open by now, by what the last step leads to, and from
-- the places behind it, of which it isn't known yet where the line leads
abbrev pub reached : Bool → Step → List Bool → List (List ℕ) → List ℕ → List (List ℕ) → Bool
reached before last behind patterns line lines = before || ((last.leads_on && stand_for patterns lines)
    || ((last.stays && stand_for patterns (line ∷ lines)) || any_open behind patterns (line ∷ lines)))

over : (last : Step) (was_open : Bool) (others : Bool) (pattern : List ℕ) (patterns : List (List ℕ)) (line : List ℕ) (lines : List (List ℕ)) →
    ((last.leads_on && stand_for (pattern ∷ patterns) lines)
    || (((was_open || last.stays) && stand_for (pattern ∷ patterns) (line ∷ lines)) || others))
    ≡ (((step_over last was_open pattern line).is_open && stand_for (pattern ∷ patterns) lines)
    || (((step_over last was_open pattern line).leads_on && stand_for patterns lines)
    || (((step_over last was_open pattern line).stays && stand_for patterns (line ∷ lines)) || others)))
over last was_open others pattern patterns line lines = ⊎_elim
    (λ (gap : is_gap pattern ≡ true). rw gap (over_gap (was_open || last.stays) last.leads_on (stands_for pattern line)
    (some_suffix (stand_for patterns) lines) (stand_for patterns (line ∷ lines)) others (stand_for patterns lines)))
    (λ (other : is_gap pattern ≡ false). rw other (over_line (was_open || last.stays) last.leads_on (stands_for pattern line)
    (first_and_rest (stands_for pattern) (stand_for patterns) lines) (stand_for patterns (line ∷ lines)) others
    (stand_for patterns lines)))
    (cases_Bool (is_gap pattern))

-- a step over a place leaves that as it is
steps : (before : Bool) (last : Step) (was_open : Bool) (behind : List Bool) (pattern : List ℕ) (patterns : List (List ℕ)) (line : List ℕ) (lines : List (List ℕ)) →
    reached before last (was_open ∷ behind) (pattern ∷ patterns) line lines
    ≡ reached (before || ((step_over last was_open pattern line).is_open && stand_for (pattern ∷ patterns) lines))
    (step_over last was_open pattern line) behind patterns line lines
steps before last was_open behind pattern patterns line lines =
    ap (λ rest. before || rest)
    (ap (λ rest. (last.leads_on && stand_for (pattern ∷ patterns) lines) || rest)
    (either last.stays was_open (stand_for (pattern ∷ patterns) (line ∷ lines)) (any_open behind patterns (line ∷ lines)))
    ∙ over last was_open (any_open behind patterns (line ∷ lines)) pattern patterns line lines)
    ∙ joined before _ _

-- a step over the place with this index, in the list of all
pub step_in_list : (places : List Bool) (patterns : List (List ℕ)) (index : ℕ) (last : Step) (line : List ℕ) (lines : List (List ℕ)) →
    index < length places → index < length patterns →
    reached (any_open (take index places) patterns lines) last (drop index places) (drop index patterns) line lines
    ≡ (let next = step_over last (get_or places index false) (get_or patterns index []) line in
    reached (any_open (take (index + 1) (set places index next.is_open)) patterns lines) next
    (drop (index + 1) (set places index next.is_open)) (drop (index + 1) patterns) line lines)
step_in_list places patterns index last line lines within among =
    let pattern : List ℕ = get_or patterns index [] in
    let was_open : Bool = get_or places index false in
    let next : Step = step_over last was_open pattern line in
    let before : Bool = any_open (take index places) patterns lines in
    let taken : length (take index places) ≡ index = length-take-le index places (le_of_lt within) in
    let left : drop (length (take index places)) patterns ≡ pattern ∷ drop (index + 1) patterns =
    ap (λ n. drop n patterns) taken ∙ drop_more patterns index [] among in
    let now : any_open (take (index + 1) (set places index next.is_open)) patterns lines
    ≡ (before || (next.is_open && stand_for (pattern ∷ drop (index + 1) patterns) lines)) =
    ap (λ open_now. any_open open_now patterns lines) (take_more_set places index next.is_open within)
    ∙ any_open-append (take index places) next.is_open patterns lines
    (subst (λ n. n ≤ length patterns) (sym taken) (le_of_lt among))
    ∙ ap (λ rest. before || (next.is_open && stand_for rest lines)) left in
    ap (λ behind. reached before last behind (drop index patterns) line lines) (drop_more places index false within)
    ∙ ap (λ rest. reached before last (was_open ∷ drop (index + 1) places) rest line lines) (drop_more patterns index [] among)
    ∙ steps before last was_open (drop (index + 1) places) pattern (drop (index + 1) patterns) line lines
    ∙ ap₂ (λ done behind. reached done next behind (drop (index + 1) patterns) line lines) (sym now)
    (sym (drop-set-lt (index + 1) places index next.is_open (omega (arith))))

nothing_more : (x y z w : Bool) → (x || (y || ((z && false) || (w && false)))) ≡ (x || y)
nothing_more x y true true = ap (λ rest. x || rest) (or_none y)
nothing_more x y true false = ap (λ rest. x || rest) (or_none y)
nothing_more x y false true = ap (λ rest. x || rest) (or_none y)
nothing_more x y false false = ap (λ rest. x || rest) (or_none y)

-- behind the last pattern lines end: the place there is open where the line led to it
pub ends_in_list : (places : List Bool) (patterns : List (List ℕ)) (last : Step) (line : List ℕ) (lines : List (List ℕ)) →
    length places ≡ length patterns + 1 →
    reached (any_open (take (length patterns) places) patterns lines) last (drop (length patterns) places)
    (drop (length patterns) patterns) line lines
    ≡ any_open (set places (length patterns) last.leads_on) patterns lines
ends_in_list places patterns last line lines sizes =
    let end : ℕ = length patterns in
    let within : end < length places = omega (arith, sizes) in
    let before : Bool = any_open (take end places) patterns lines in
    let taken : length (take end places) ≡ end = length-take-le end places (le_of_lt within) in
    let is_all : length (set places end last.leads_on) ≤ end + 1 =
    omega (arith, sizes, length-set places end last.leads_on) in
    let whole : set places end last.leads_on ≡ take end places ++ last.leads_on ∷ [] =
    sym (take_all (end + 1) (set places end last.leads_on) is_all) ∙ take_more_set places end last.leads_on within in
    let no_pattern : drop end patterns ≡ [] = drop_of_length-le patterns (le_of_eq refl) in
    let now : any_open (set places end last.leads_on) patterns lines ≡ (before || (last.leads_on && stand_for [] lines)) =
    ap (λ open_now. any_open open_now patterns lines) whole
    ∙ any_open-append (take end places) last.leads_on patterns lines (le_of_eq taken)
    ∙ ap (λ rest. before || (last.leads_on && stand_for rest lines)) (ap (λ n. drop n patterns) taken ∙ no_pattern) in
    ap (λ rest. reached before last (drop end places) rest line lines) no_pattern
    ∙ ap (λ behind. reached before last behind [] line lines) (drop_more places end false within)
    ∙ nothing_more before (last.leads_on && stand_for [] lines) last.stays (get_or places end false)
    ∙ sym now
