-- How many reports are by default.
use Rattle.std.proofs.Common.{◌≡◌, ℕ, suc, zero, ◌+◌, ◌-◌, ◌≤◌, min, Bool, true, false, if◌then◌else◌, List, [], ◌∷◌, ◌++◌, drop, length, Option, None, Some, refl, ◌∙◌, ap, subst, arith, nat_le}
use Rattle.std.specs.List.{AllZip}
use Rattle.std.specs.Option.{option_map}
use Rattle.std.proofs.lemmas.Bool.{true≢false}
use Rattle.milter_message.specs.MailObject.{MailObject}
use Rattle.milter_wire.specs.Negotiation.{has_leading_space}
use Rattle.milter_protocol.specs.Exchanges.{Exchange}
use Rattle.milter_mta_outcome.specs.declared.loss.By.{By}
use Rattle.milter_mta_outcome.specs.declared.loss.By.TheVariants.{Connection, Default, Filter}
use Rattle.milter_mta_outcome.specs.declared.loss.Loss.{Loss}
use Rattle.milter_mta_outcome.specs.declared.loss.Loss.TheVariants as losses
use Rattle.milter_mta_outcome.specs.declared.outcome.Outcome.{Outcome}
use Rattle.milter_mta_outcome.specs.declared.outcome.Report.{Report}
use Rattle.milter_mta_outcome.specs.Dialogues.{acted, ruled}
use Rattle.milter_mta.specs.Dispositions.{report}
use Rattle.milter_mta.specs.Sessions.{settled_through}
use Rattle.milter_mta.specs.Settled.{ends_with_client}
use Rattle.milter_world.specs.declared.event_line.Event.{Event}
use Rattle.milter_world.specs.declared.event_line.Event.TheVariants.{Dial, Send, ToFilter, Answer, ToMta, Die, Lose, Timeout}
use Rattle.milter_world.specs.declared.state.Counts.{Counts}
use Rattle.milter_world.specs.declared.state.State.{State}
use Rattle.milter_world.specs.declared.state.State.TheVariants.{Idle, Linked, Done}
use Rattle.milter_world.specs.Schedule.{Scenario, after_all, happens, happens_linked, entries_at}
use Rattle.milter_world.specs.DialogueReports.{IsRuledBy, negotiated_of, count_events, count_reports, dialogue_about}
use Rattle.milter_world.specs.ConnectionEntries.{Entry, default_reports, default_within, reports_within}

-- of some kind of cause, each event adds at most so many
module _ (is_by : By → Bool) (is_event : Event → Bool) (not_filter : is_by Filter ≡ false) (not_client : is_by Connection ≡ false)
    (reset : is_event Lose ≡ false → is_by (Default losses.Reset) ≡ false) (timeout : is_event Timeout ≡ false → is_by (Default losses.Timeout) ≡ false) where
  abbrev count : List Report → ℕ
  count rs = count_reports is_by rs

  count-append : (xs ys : List Report) → count (xs ++ ys) ≡ count xs + count ys
  count-append [] ys = omega arith
  count-append (x ∷ xs) ys = by_kind (is_by x.settled_by) (count-append xs ys)
    where
      by_kind : (k : Bool) → count (xs ++ ys) ≡ count xs + count ys → (if k then suc (count (xs ++ ys)) else count (xs ++ ys)) ≡ (if k then suc (count xs) else count xs) + count ys
      by_kind true e = omega arith
      by_kind false e = e

  through : (w : List Exchange) → is_by (settled_through w) ≡ false
  through w = by_client (ends_with_client w)
    where
      by_client : (k : Bool) → is_by (if k then Connection else Filter) ≡ false
      by_client true = not_client
      by_client false = not_filter

  ruled-not : (p : Scenario) (message : MailObject) (r : Report) → IsRuledBy p message r → is_by r.settled_by ≡ false
  ruled-not p message r e = by_found (ruled (has_leading_space (negotiated_of p)) message (dialogue_about p message)) e
    where
      by_found : (found : Option Outcome) → option_map (λ outcome. report (acted (dialogue_about p message)) outcome (settled_through (dialogue_about p message))) found ≡ Some r → is_by r.settled_by ≡ false
      by_found None e = absurd cc
      by_found (Some o) e = subst (λ (x : Report). is_by x.settled_by ≡ false) (let same : report (acted (dialogue_about p message)) o (settled_through (dialogue_about p message)) ≡ r = cc in same) (through (dialogue_about p message))

  pub none-ruled : (p : Scenario) (xs : List MailObject) (rs : List Report) → AllZip (IsRuledBy p) xs rs → count rs ≡ 0
  none-ruled p [] [] all = refl
  none-ruled p [] (r ∷ rs) all = absurd all
  none-ruled p (x ∷ xs) [] all = absurd all
  none-ruled p (x ∷ xs) (r ∷ rs) all = ap (λ (k : Bool). if k then suc (count rs) else count rs) (ruled-not p x r all.0) ∙ none-ruled p xs rs all.1

  count-drop : (n : ℕ) (rs : List Report) → count (drop n rs) ≤ count rs
  count-drop zero rs = omega arith
  count-drop (suc n) [] = omega arith
  count-drop (suc n) (r ∷ rs) = by_kind (is_by r.settled_by) (count-drop n rs)
    where
      by_kind : (k : Bool) → count (drop n rs) ≤ count rs → count (drop n rs) ≤ (if k then suc (count rs) else count rs)
      by_kind true e = omega arith
      by_kind false e = e

  given-one : (p : Scenario) (loss : Loss) (left : List MailObject) (dialogue : List Exchange) → count (default_reports p.config.on_loss loss left dialogue) ≤ (if is_by (Default loss) then 1 else 0)
  given-one p loss [] dialogue = omega arith
  given-one p loss (m ∷ left) dialogue = omega arith

  le-if : (a b : Bool) → (b ≡ false → a ≡ false) → (if a then 1 else 0) ≤ (if b then 1 else 0)
  le-if true true f = omega arith
  le-if true false f = absurd (true≢false (f refl))
  le-if false true f = omega arith
  le-if false false f = omega arith

  at-most : Event → ℕ
  at-most event = if is_event event then 1 else 0

  module _ (p : Scenario) (settled-none : (i h : ℕ) → count (reports_within (entries_at p i) h) ≡ 0) where
    lost-one : (loss : Loss) (i h : ℕ) → count (default_within p.config.on_loss loss (entries_at p i) h) ≤ (if is_by (Default loss) then 1 else 0)
    lost-one loss i h = of-turns (entries_at p i) h
      where
        of-turns : (entries : List Entry) (h : ℕ) → count (default_within p.config.on_loss loss entries h) ≤ (if is_by (Default loss) then 1 else 0)
        of-turns [] h = omega arith
        of-turns (entry ∷ entries) h = by_past (nat_le (length entry.line.back) h) (of-turns entries (h - length entry.line.back))
          where
            by_past : (k : Bool) → count (default_within p.config.on_loss loss entries (h - length entry.line.back)) ≤ (if is_by (Default loss) then 1 else 0)
                → count (if k then default_within p.config.on_loss loss entries (h - length entry.line.back) else default_reports p.config.on_loss loss entry.left entry.dialogue) ≤ (if is_by (Default loss) then 1 else 0)
            by_past true e = e
            by_past false e = given-one p loss entry.left entry.dialogue

    one-linked : (i : ℕ) (c : Counts) (event : Event) → count (happens_linked p i c event).reports ≤ at-most event
    unfolding at-most
    one-linked i c Dial = omega arith
    one-linked i c (Send n) = omega arith
    one-linked i c (ToFilter n) = omega arith
    one-linked i c (Answer n) = omega arith
    one-linked i c (ToMta n) =
        let d = count-drop (length (reports_within (entries_at p i) c.received)) (reports_within (entries_at p i) (min (c.received + n) c.answered)) in
        let z = settled-none i (min (c.received + n) c.answered) in
        omega arith
    one-linked i c Die = omega arith
    one-linked i c Lose = let o = lost-one losses.Reset i c.received in let l = le-if (is_by (Default losses.Reset)) (is_event Lose) reset in omega arith
    one-linked i c Timeout = let o = lost-one losses.Timeout i c.received in let l = le-if (is_by (Default losses.Timeout)) (is_event Timeout) timeout in omega arith

    one : (s : State) (event : Event) → count (happens p s event).reports ≤ at-most event
    unfolding at-most
    one (Idle i) Lose = let o = given-one p losses.Reset (drop i p.session.messages) [] in let l = le-if (is_by (Default losses.Reset)) (is_event Lose) reset in omega arith
    one (Idle i) Timeout = let o = given-one p losses.Timeout (drop i p.session.messages) [] in let l = le-if (is_by (Default losses.Timeout)) (is_event Timeout) timeout in omega arith
    one (Idle i) Dial = omega arith
    one (Idle i) (Send n) = omega arith
    one (Idle i) (ToFilter n) = omega arith
    one (Idle i) (Answer n) = omega arith
    one (Idle i) (ToMta n) = omega arith
    one (Idle i) Die = omega arith
    one (Linked i c) event = one-linked i c event
    one Done event = omega arith

    abbrev events_of : List Event → ℕ
    events_of events = count_events is_event events

    more-events : (event : Event) (events : List Event) → at-most event + events_of events ≡ events_of (event ∷ events)
    unfolding at-most
    more-events event events = by_kind (is_event event)
      where
        by_kind : (k : Bool) → (if k then 1 else 0) + events_of events ≡ (if k then suc (events_of events) else events_of events)
        by_kind true = omega arith
        by_kind false = omega arith

    pub at-most-all : (events : List Event) (s : State) (reports : List Report)
        → count (after_all p (record { state = s; reports = reports }) events).reports ≤ count reports + events_of events
    at-most-all [] s reports = omega arith
    at-most-all (event ∷ events) s reports =
        let o = one s event in
        let a = count-append reports (happens p s event).reports in
        let r = at-most-all events (happens p s event).state (reports ++ (happens p s event).reports) in
        let m = more-events event events in
        omega arith
