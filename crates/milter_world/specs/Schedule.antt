-- What becomes of a session over connections that fail: its state, by counts of bytes over two fixed lists of bytes,
-- and the reports that each event adds. No parser and no packet in flight is spoken of.
use Rattle.std.specs.Prelude.{ℕ, ◌+◌, ◌==◌, nat_lt, min, Bool, true, false, List, [], ◌∷◌, ◌++◌, drop, length, if◌then◌else◌}
use Rattle.milter_mail.specs.MailSession.{MailSession}
use Rattle.milter_protocol.specs.Behavior.{Behavior}
use Rattle.milter_mta_outcome.specs.declared.loss.Loss.{Loss}
use Rattle.milter_mta_outcome.specs.declared.loss.Loss.TheVariants as losses
use Rattle.milter_mta_outcome.specs.declared.outcome.Report.{Report}
use Rattle.milter_mta.specs.Mta.{Configuration}
use Rattle.milter_mta.specs.Lines.{Line}
use Rattle.milter_world.specs.declared.event_line.Event.{Event}
use Rattle.milter_world.specs.declared.event_line.Event.TheVariants.{Dial, Send, ToFilter, Answer, ToMta, Die, Lose, Timeout}
use Rattle.milter_world.specs.declared.state.Counts.{Counts}
use Rattle.milter_world.specs.declared.state.State.{State}
use Rattle.milter_world.specs.declared.state.State.TheVariants.{Idle, Linked, Done}
use Rattle.milter_world.specs.ByteCounts.{due, owed, packet_end, to_filter}
use Rattle.milter_world.specs.ConnectionEntries.{Entry, default_reports, lines_of, default_within, connection_entries, reports_within}

-- a filter, what is offered to it with what a lost one leaves, and the session
pub record Scenario : Type 0 where
  pub filter : Behavior
  pub config : Configuration
  pub session : MailSession

pub record After : Type 0 where
  pub state : State
  pub reports : List Report

abbrev pub stays : State → After
stays state = record { state = state; reports = [] }

-- the list of the entries of the connection that begins when so many messages are settled
abbrev pub entries_at : Scenario → ℕ → List Entry
entries_at p settled = connection_entries p.filter p.config.offer p.session (drop settled p.session.messages)

abbrev pub lines_at : Scenario → ℕ → List Line
lines_at p settled = lines_of (entries_at p settled)

-- ---- events

abbrev pub idle_at : Scenario → ℕ → State
idle_at p settled = if nat_lt settled (length p.session.messages) then Idle settled else Done

-- so many are settled, and these reports were added
abbrev pub gives_up : Scenario → ℕ → List Report → After
gives_up p settled reports = record { state = idle_at p (settled + length reports); reports = reports }

abbrev pub fresh : Counts
fresh = record { sent = 0; taken = 0; answered = 0; received = 0; lives = true }

-- so many bytes in all, perhaps of the last packet
abbrev pub sent_to : List Line → ℕ → Counts → ℕ → State
sent_to lines settled c sent =
    if sent == length (to_filter lines) then Done else Linked settled (record c { sent = sent })

abbrev pub sends : List Line → ℕ → Counts → ℕ → State
sends lines settled c n =
    if nat_lt c.sent (due lines c.received) then sent_to lines settled c (min (c.sent + n) (packet_end lines c.sent))
    else Linked settled c

-- what they settle now, and settled before
abbrev pub receives_bytes : Scenario → ℕ → Counts → ℕ → After
receives_bytes p settled c received =
    let entries = entries_at p settled in
    record {
      state = Linked settled (record c { received = received });
      reports = drop (length (reports_within entries c.received)) (reports_within entries received);
    }

abbrev pub loses : Scenario → ℕ → Counts → Loss → After
loses p settled c loss =
    let entries = entries_at p settled in
    let reports = default_within p.config.on_loss loss entries c.received in
    record {
      state = idle_at p (settled + length (reports_within entries c.received) + length reports);
      reports = reports;
    }

abbrev pub happens_idle : Scenario → ℕ → Event → After
happens_idle p settled Dial = stays (Linked settled fresh)
happens_idle p settled Lose =
    gives_up p settled (default_reports p.config.on_loss losses.Reset (drop settled p.session.messages) [])
happens_idle p settled Timeout =
    gives_up p settled (default_reports p.config.on_loss losses.Timeout (drop settled p.session.messages) [])
happens_idle p settled other = stays (Idle settled)

-- the filter takes or answers so many bytes, while it lives
abbrev pub if_lives : Bool → Counts → Counts → Counts
if_lives true c then_is = then_is
if_lives false c then_is = c

abbrev pub happens_linked : Scenario → ℕ → Counts → Event → After
happens_linked p settled c Dial = stays (Linked settled c)
happens_linked p settled c (Send n) = stays (sends (lines_at p settled) settled c n)
happens_linked p settled c (ToFilter n) =
    stays (Linked settled (if_lives c.lives c (record c { taken = min (c.taken + n) c.sent })))
happens_linked p settled c (Answer n) =
    let answered = min (c.answered + n) (owed (lines_at p settled) c.taken) in
    stays (Linked settled (if_lives c.lives c (record c { answered = answered })))
happens_linked p settled c (ToMta n) = receives_bytes p settled c (min (c.received + n) c.answered)
happens_linked p settled c Die = stays (Linked settled (record c { lives = false }))
happens_linked p settled c Lose = loses p settled c losses.Reset
happens_linked p settled c Timeout = loses p settled c losses.Timeout

abbrev pub happens : Scenario → State → Event → After
happens p (Idle settled) event = happens_idle p settled event
happens p (Linked settled c) event = happens_linked p settled c event
happens p Done event = stays Done

-- ---- a list of events

abbrev pub first : Scenario → State
first p = idle_at p 0

abbrev pub after_all : Scenario → After → List Event → After
after_all p after [] = after
after_all p after (event ∷ events) =
    let next = happens p after.state event in
    after_all p (record { state = next.state; reports = after.reports ++ next.reports }) events

-- the reports of a whole run
abbrev pub run_reports : Scenario → List Event → List Report
run_reports p events = (after_all p (stays (first p)) events).reports
