-- Each loss settles a message, or all are settled.
use Rattle.std.proofs.Common.{◌≡◌, ℕ, suc, ◌+◌, ◌-◌, ◌≤◌, ◌<◌, Bool, true, false, if◌then◌else◌, nat_lt, ◌==◌, min, List, [], ◌∷◌, ◌++◌, drop, length, refl, sym, ap, subst, arith, append-nil, length-append, length-drop}
use Rattle.std.proofs.lemmas.Bool.{eqb-true, le-leb, lt-leb, ltb-false, ltb-true}
use Rattle.milter_message.specs.MailObject.{MailObject}
use Rattle.milter_mta_outcome.specs.declared.loss.Loss.{Loss}
use Rattle.milter_mta_outcome.specs.declared.loss.Loss.TheVariants as losses
use Rattle.milter_mta_outcome.specs.declared.outcome.Report.{Report}
use Rattle.milter_protocol.specs.Exchanges.{Exchange}
use Rattle.milter_mta.specs.Lines.{Line}
use Rattle.milter_world.specs.ByteCounts.{due, packet_end, to_filter, to_mta}
use Rattle.milter_world.specs.ConnectionEntries.{Entry, default_reports, default_within, reports_within}
use Rattle.milter_world.proofs.CountedBytes.{by_lt, due-le, owed-mono, packet_end-due}
use Rattle.milter_world.proofs.EntryLines.{lines-are, session-ends}
use Rattle.milter_world.specs.declared.event_line.Event.{Event}
use Rattle.milter_world.specs.declared.event_line.Event.TheVariants.{Dial, Send, ToFilter, Answer, ToMta, Die, Lose, Timeout}
use Rattle.milter_world.specs.declared.state.Counts.{Counts}
use Rattle.milter_world.specs.declared.state.State.{State}
use Rattle.milter_world.specs.declared.state.State.TheVariants.{Idle, Linked, Done}
use Rattle.milter_world.specs.Schedule.{After, Scenario, after_all, entries_at, first, gives_up, happens, idle_at, lines_at, loses, sends, sent_to}
use Rattle.milter_world.specs.DialogueReports.{IsRuledBy, count_events, is_lose, is_timeout}
use Rattle.milter_world.proofs.EntryAccounts.{Accounts, DialogueLaws, all-ruled, session}
use Rattle.milter_world.proofs.RunReports.{IsAtState, Sound, at-happens, at-first, sound-happens, sound-idle, zip-length}

-- ---- a loss over the entries of a connection

default-length : (p : Scenario) (loss : Loss) (left : List MailObject) (dialogue : List Exchange) → length (default_reports p.config.on_loss loss left dialogue) ≡ min 1 (length left)
default-length p loss [] dialogue = omega arith
default-length p loss (message ∷ left) dialogue = omega arith

-- one more report, where a message is left
lost-length : (p : Scenario) (loss : Loss) (entries : List Entry) (left : List MailObject) → Accounts p left entries → (h : ℕ)
    → length (reports_within entries h) + length (default_within p.config.on_loss loss entries h) ≡ min (length (reports_within entries h) + 1) (length left)
lost-length p loss [] left acc h = let none = ap length acc in omega arith
lost-length p loss (entry ∷ entries) left acc h =
    let n = length entry.line.back in
    by_lt h n
    (λ wait.
    let none : reports_within (entry ∷ entries) h ≡ [] = rw (lt-leb n h wait) refl in
    let lost : default_within p.config.on_loss loss (entry ∷ entries) h ≡ default_reports p.config.on_loss loss entry.left entry.dialogue = rw (lt-leb n h wait) refl in
    let a = ap length none in
    let b = ap length lost in
    let d = default-length p loss entry.left entry.dialogue in
    let e = ap length acc.0 in
    omega arith)
    (λ past.
    let all : reports_within (entry ∷ entries) h ≡ entry.reports ++ reports_within entries (h - n) = rw (le-leb n h past) refl in
    let lost : default_within p.config.on_loss loss (entry ∷ entries) h ≡ default_within p.config.on_loss loss entries (h - n) = rw (le-leb n h past) refl in
    let rest = lost-length p loss entries acc.2.0 acc.2.2 (h - n) in
    let a = ap length all in
    let b = length-append entry.reports (reports_within entries (h - n)) in
    let d = ap length lost in
    let e = ap length acc.2.1.messages_are in
    let f = length-append acc.2.1.done acc.2.0 in
    let g = zip-length (IsRuledBy p) acc.2.1.done entry.reports acc.2.1.each in
    omega arith)

module _ (p : Scenario) (laws : DialogueLaws p) where
  abbrev pub whole : ℕ
  whole = length p.session.messages

  -- messages are left where a connection is wanted or began, and none where it is over
  abbrev pub Left : State → List Report → Type 0
  Left (Idle i) reports = i < whole
  Left (Linked i c) reports = i < whole
  Left Done reports = length reports ≡ whole

  left-idle : (i : ℕ) (reports : List Report) → length reports ≡ i → i ≤ whole → Left (idle_at p i) reports
  left-idle i reports e le = by_some (nat_lt i whole) refl
    where
      by_some : (some : Bool) → nat_lt i whole ≡ some → Left (if some then Idle i else Done) reports
      by_some true is = ltb-true i whole is
      by_some false is = let ge = ltb-false i whole is in omega arith

  -- where all was sent all was received
  all-settled : (i : ℕ) (c : Counts) → due (lines_at p i) c.received ≡ length (to_filter (lines_at p i)) → length (reports_within (entries_at p i) c.received) ≡ length (drop i p.session.messages)
  all-settled i c e =
      let messages = drop i p.session.messages in
      let same = lines-are p.filter p.config.offer p.session messages in
      let ends : length (to_mta (lines_at p i)) ≤ c.received =
      subst (λ (lines : List Line). due lines c.received ≡ length (to_filter lines) → length (to_mta lines) ≤ c.received) (sym same) (session-ends p.filter p.config.offer p.session messages c.received) e in
      sym (zip-length (IsRuledBy p) messages (reports_within (entries_at p i) c.received) (all-ruled p (entries_at p i) messages (session p laws messages) c.received ends))

  -- ---- the last bytes of a connection

  last-due : (i : ℕ) (c : Counts) (n : ℕ) → Sound p laws (Linked i c) → c.sent < due (lines_at p i) c.received
      → min (c.sent + n) (packet_end (lines_at p i) c.sent) ≡ length (to_filter (lines_at p i)) → due (lines_at p i) c.received ≡ length (to_filter (lines_at p i))
  last-due i c n ok early all =
      let a = ok.0 in let b = ok.1 in
      let m = owed-mono (lines_at p i) c.taken c.sent ok.2 in
      let d = packet_end-due (lines_at p i) c.sent c.received early (omega arith) in
      let l = due-le (lines_at p i) c.received in
      omega arith

  left-sent : (i : ℕ) (c : Counts) (n : ℕ) (reports : List Report) → Sound p laws (Linked i c) → IsAtState p laws (Linked i c) reports → i < whole
      → Left (sends (lines_at p i) i c n) (reports ++ [])
  left-sent i c n reports ok h less = by_due (nat_lt c.sent (due (lines_at p i) c.received)) refl
    where
      by_all : (s : ℕ) (all : Bool) → (s == length (to_filter (lines_at p i))) ≡ all
          → (s ≡ length (to_filter (lines_at p i)) → due (lines_at p i) c.received ≡ length (to_filter (lines_at p i)))
          → Left (if all then Done else Linked i (record c { sent = s })) (reports ++ [])
      by_all s false e last = less
      by_all s true e last =
          let settled = all-settled i c (last (eqb-true s (length (to_filter (lines_at p i))) e)) in
          let d = length-drop i p.session.messages in
          let a = ap length h.3 in
          let b = length-append h.0 (reports_within (entries_at p i) c.received) in
          let k = h.2 in
          let z = ap length (append-nil reports) in
          omega arith

      by_due : (early : Bool) → nat_lt c.sent (due (lines_at p i) c.received) ≡ early
          → Left (if early then sent_to (lines_at p i) i c (min (c.sent + n) (packet_end (lines_at p i) c.sent)) else Linked i c) (reports ++ [])
      by_due false e = less
      by_due true e =
          by_all (min (c.sent + n) (packet_end (lines_at p i) c.sent)) (min (c.sent + n) (packet_end (lines_at p i) c.sent) == length (to_filter (lines_at p i))) refl
          (last-due i c n ok (ltb-true c.sent (due (lines_at p i) c.received) e))

  -- ---- one event

  -- so many losses leave it at this
  record Moves (reports : List Report) (losses : ℕ) (state : State) (added : List Report) : Type 0 where
    left : Left state (reports ++ added)
    more : min (length reports + losses) whole ≤ length (reports ++ added)

  no-loss : (reports : List Report) (state : State) (added : List Report) → Left state (reports ++ added) → Moves reports 0 state added
  no-loss reports state added left = record { left = left; more = let a = length-append reports added in omega arith }

  gives-up : (i : ℕ) (reports : List Report) (loss : Loss) → length reports ≡ i → i < whole
      → Moves reports 1 (gives_up p i (default_reports p.config.on_loss loss (drop i p.session.messages) [])).state (default_reports p.config.on_loss loss (drop i p.session.messages) [])
  gives-up i reports loss e less =
      let us = default_reports p.config.on_loss loss (drop i p.session.messages) [] in
      let a = default-length p loss (drop i p.session.messages) [] in
      let d = length-drop i p.session.messages in
      let b = length-append reports us in
      record { left = left-idle (i + length us) (reports ++ us) (omega arith) (omega arith); more = omega arith }

  loses-one : (i : ℕ) (c : Counts) (reports : List Report) (loss : Loss) → IsAtState p laws (Linked i c) reports → i < whole → Moves reports 1 (loses p i c loss).state (loses p i c loss).reports
  loses-one i c reports loss h less =
      let sw = reports_within (entries_at p i) c.received in
      let lw = default_within p.config.on_loss loss (entries_at p i) c.received in
      let l = lost-length p loss (entries_at p i) (drop i p.session.messages) (session p laws (drop i p.session.messages)) c.received in
      let d = length-drop i p.session.messages in
      let a = ap length h.3 in
      let b = length-append h.0 sw in
      let k = h.2 in
      let e = length-append reports lw in
      record { left = left-idle (i + length sw + length lw) (reports ++ lw) (omega arith) (omega arith); more = omega arith }

  abbrev losses_of : Event → ℕ
  losses_of event = (if is_lose event then 1 else 0) + (if is_timeout event then 1 else 0)

  moves-linked : (i : ℕ) (c : Counts) (event : Event) (reports : List Report) → Sound p laws (Linked i c) → IsAtState p laws (Linked i c) reports → i < whole
      → Moves reports (losses_of event) (happens p (Linked i c) event).state (happens p (Linked i c) event).reports
  moves-linked i c Dial reports ok h less = no-loss reports _ _ less
  moves-linked i c (Send n) reports ok h less = no-loss reports _ _ (left-sent i c n reports ok h less)
  moves-linked i c (ToFilter n) reports ok h less = no-loss reports _ _ less
  moves-linked i c (Answer n) reports ok h less = no-loss reports _ _ less
  moves-linked i c (ToMta n) reports ok h less = no-loss reports _ _ less
  moves-linked i c Die reports ok h less = no-loss reports _ _ less
  moves-linked i c Lose reports ok h less = loses-one i c reports losses.Reset h less
  moves-linked i c Timeout reports ok h less = loses-one i c reports losses.Timeout h less

  moves : (s : State) (event : Event) (reports : List Report) → Sound p laws s → IsAtState p laws s reports → Left s reports
      → Moves reports (losses_of event) (happens p s event).state (happens p s event).reports
  moves (Idle i) Dial reports ok h less = no-loss reports _ _ less
  moves (Idle i) (Send n) reports ok h less = no-loss reports _ _ less
  moves (Idle i) (ToFilter n) reports ok h less = no-loss reports _ _ less
  moves (Idle i) (Answer n) reports ok h less = no-loss reports _ _ less
  moves (Idle i) (ToMta n) reports ok h less = no-loss reports _ _ less
  moves (Idle i) Die reports ok h less = no-loss reports _ _ less
  moves (Idle i) Lose reports ok h less = gives-up i reports losses.Reset h.1 less
  moves (Idle i) Timeout reports ok h less = gives-up i reports losses.Timeout h.1 less
  moves (Linked i c) event reports ok h less = moves-linked i c event reports ok h less
  moves Done event reports ok h all = let z = ap length (append-nil reports) in record { left = omega arith; more = omega arith }

  -- ---- event after event

  counted : (is_event : Event → Bool) (event : Event) (events : List Event) → count_events is_event (event ∷ events) ≡ (if is_event event then 1 else 0) + count_events is_event events
  counted is_event event events = by_kind (is_event event)
    where
      by_kind : (k : Bool) → (if k then suc (count_events is_event events) else count_events is_event events) ≡ (if k then 1 else 0) + count_events is_event events
      by_kind true = omega arith
      by_kind false = omega arith

  -- where the events leave it
  pub record Settled (reports : List Report) (losses : ℕ) (after : After) : Type 0 where
    pub left : Left after.state after.reports
    pub more : min (length reports + losses) whole ≤ length after.reports

  settles : (events : List Event) (s : State) (reports : List Report) → Sound p laws s → IsAtState p laws s reports → Left s reports
      → Settled reports (count_events is_lose events + count_events is_timeout events) (after_all p (record { state = s; reports = reports }) events)
  settles [] s reports ok h left = record { left = left; more = omega arith }
  settles (event ∷ events) s reports ok h left =
      let next = happens p s event in
      let m = moves s event reports ok h left in
      let r = settles events next.state (reports ++ next.reports) (sound-happens p laws s event ok) (at-happens p laws s event reports ok h) m.left in
      let a = counted is_lose event events in
      let b = counted is_timeout event events in
      let d = m.more in
      let e = r.more in
      record { left = r.left; more = omega arith }

  pub run-settles : (events : List Event) → Settled [] (count_events is_lose events + count_events is_timeout events) (after_all p (record { state = first p; reports = [] }) events)
  run-settles events = settles events (first p) [] (sound-idle p laws 0) (at-first p laws) (left-idle 0 [] refl (omega arith))
