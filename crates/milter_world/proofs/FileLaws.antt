-- Lines have their events in one way only, and have none where one of them is at fault.
use Rattle.std.proofs.Common.{◌≡◌, ◌≤◌, ◌+◌, ℕ, List, [], ◌∷◌, ◌++◌, length, Result, Ok, Err, refl, sym, ap}
use Rattle.std.proofs.Common.{subst, ◌∙◌, arith, length-append}
use Rattle.std.specs.List.{AllZip}
use Rattle.std.specs.Result.{IfErr, IfOk, MatchResult}
use Rattle.std.proofs.lemmas.List.Concat.{flat_map-append}
use Rattle.milter_world.specs.declared.event_line.Event.{Event}
use Rattle.milter_world.specs.declared.event_fault.EventFault.{EventFault}
use Rattle.milter_world.specs.declared.event_fault.EventFault.TheVariants.{UnknownLine, TooMany, NoMemory}
use Rattle.milter_world.specs.EventFault.{IsFaultOf}
use Rattle.milter_world.specs.EventFile.{HaveEvents, LineHasEvents}
use Rattle.milter_world.proofs.LineRuns.{all_of, line_events_same}

-- ---- in one way only

parts_same : (lines : List (List ℕ)) (parts others : List (List Event)) → AllZip LineHasEvents lines parts
    → AllZip LineHasEvents lines others → parts ≡ others
parts_same [] [] [] h k = refl
parts_same [] [] (other ∷ others) h k = absurd k
parts_same [] (part ∷ parts) others h k = absurd h
parts_same (line ∷ lines) [] others h k = absurd h
parts_same (line ∷ lines) (part ∷ parts) [] h k = absurd k
parts_same (line ∷ lines) (part ∷ parts) (other ∷ others) h k =
    ap (λ (p : List Event). p ∷ parts) (line_events_same line part other h.0 k.0)
    ∙ ap (λ (ps : List (List Event)). other ∷ ps) (parts_same lines parts others h.1 k.1)

pub events_same : (lines : List (List ℕ)) (events others : List Event) → HaveEvents lines events
    → HaveEvents lines others → events ≡ others
events_same lines events others h k =
    h.joined ∙ ap all_of (parts_same lines h.parts k.parts h.have_parts k.have_parts) ∙ sym k.joined

-- ---- none where a line is at fault

-- the events of the lines before a line, of the line, and of those after it
record PartsAt (before : List (List ℕ)) (line : List ℕ) (parts : List (List Event)) : Type 0 where
  first : List (List Event)
  part : List Event
  rest : List (List Event)
  in_order : parts ≡ first ++ part ∷ rest
  have_first : AllZip LineHasEvents before first
  has_part : LineHasEvents line part

parts_at : (before : List (List ℕ)) (line : List ℕ) (after : List (List ℕ)) (parts : List (List Event))
    → AllZip LineHasEvents (before ++ line ∷ after) parts → PartsAt before line parts
parts_at [] line after [] h = absurd h
parts_at [] line after (part ∷ parts) h =
    record { first = []; part = part; rest = parts; in_order = refl; have_first = tt; has_part = h.0 }
parts_at (l ∷ before) line after [] h = absurd h
parts_at (l ∷ before) line after (p ∷ parts) h =
    let next = parts_at before line after parts h.1 in
    record {
      first = p ∷ next.first;
      part = next.part;
      rest = next.rest;
      in_order = ap (λ (ps : List (List Event)). p ∷ ps) next.in_order;
      have_first = (h.0, next.have_first);
      has_part = next.has_part;
    }

-- events of some first lines and of the next one are among all
length_first : (first : List (List Event)) (part : List Event) (rest : List (List Event))
    → length (all_of first) + length part ≤ length (all_of (first ++ part ∷ rest))
length_first first part rest =
    let whole = ap length (flat_map-append (λ (p : List Event). p) first (part ∷ rest)) in
    let parts = length-append (all_of first) (part ++ all_of rest) in
    omega (arith, whole, parts, length-append part (all_of rest))

pub at_fault : (lines : List (List ℕ)) (fault : EventFault) (events : List Event) → IsFaultOf lines fault
    → HaveEvents lines events → fault ≡ NoMemory
at_fault lines (UnknownLine n) events stops have =
    let parts = subst (λ l. AllZip LineHasEvents l have.parts) stops.in_order have.have_parts in
    let at = parts_at stops.before stops.line stops.after have.parts parts in
    absurd (stops.is_wrong at.part at.has_part)
at_fault lines (TooMany n) events stops have =
    let parts = subst (λ l. AllZip LineHasEvents l have.parts) stops.in_order have.have_parts in
    let at = parts_at stops.before stops.line stops.after have.parts parts in
    let before = stops.have_events in
    let same = parts_same stops.before before.parts at.first before.have_parts at.have_first in
    let first = ap length (before.joined ∙ ap all_of same) in
    let part = ap length (line_events_same stops.line stops.is_wrong.0 at.part stops.is_wrong.1 at.has_part) in
    let whole = ap length (have.joined ∙ ap all_of at.in_order) in
    absurd (omega (arith, first, part, whole, length_first at.first at.part at.rest, have.few, stops.is_wrong.2))
at_fault lines NoMemory events stops have = refl

-- ---- what was read

pub only_read : {V : Type 0} (items : V → List Event) (lines : List (List ℕ)) (result : Result V EventFault)
    → IfOk result (λ v. HaveEvents lines (items v)) → IfErr result (IsFaultOf lines)
    → (events : List Event) → HaveEvents lines events
    → MatchResult result (λ v. items v ≡ events) (λ e. e ≡ NoMemory)
only_read items lines (Ok v) found fault events have = events_same lines (items v) events found have
only_read items lines (Err e) found fault events have = at_fault lines e events fault have
