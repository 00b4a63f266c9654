-- Both ends of a connection and the bytes between them, at any byte of it.
use Rattle.std.specs.Prelude.{◌≡◌, ◌<◌, ◌≤◌, ◌^◌, ℕ, Bool, true, false, List, [], ◌++◌, drop, length, min, take, Option, None, Some}
use Rattle.milter_protocol.specs.declared.stage_order.CommandOrder.{CommandOrder}
use Rattle.milter_protocol.specs.Behavior.{Behavior}
use Rattle.milter_mta_outcome.specs.declared.loss.Loss.{Loss}
use Rattle.milter_mta_outcome.specs.declared.loss.Loss.TheVariants as losses
use Rattle.milter_mta_outcome.specs.declared.loss.Loss.TheVariants.{Reset}
use Rattle.milter_mta.specs.Mta.{Mta, fresh}
use Rattle.milter_mta.specs.Output.{advanced, dialled, pending, sent}
use Rattle.milter_mta.specs.Dispositions.{lost}
use Rattle.milter_mta.specs.AnyFilter.{ConnectionIsReported, GoesOnDialogues}
use Rattle.milter_mta.specs.Lines.{Line}
use Rattle.milter_filter.specs.Cores.{Core, GoesOn, fresh_core_in}
use Rattle.milter_world.specs.Answered.{AnswersLines}
use Rattle.milter_world.specs.ByteCounts.{due, to_filter, to_mta}
use Rattle.milter_world.specs.declared.event_line.Event.{Event}
use Rattle.milter_world.specs.declared.event_line.Event.TheVariants.{Dial, ToFilter, Answer, Lose, Timeout}
use Rattle.milter_world.specs.declared.state.Counts.{Counts}
use Rattle.milter_world.specs.declared.state.State.{State}
use Rattle.milter_world.specs.declared.state.State.TheVariants.{Idle, Linked, Done}
use Rattle.milter_world.specs.Rounds.{AreCounts}
use Rattle.milter_world.specs.Schedule.{Scenario, first, happens, lines_at, entries_at}
use Rattle.milter_world.specs.FollowedLines.{Follows, IsMtaAt}

-- both ends, the bytes on their way each way, and how far they are by the schedule's state; the filter's end, which
-- takes commands in this order, is there only while it lives
pub record Ends (P : Type 0) : Type 0 where
  pub policy : P
  pub order : CommandOrder
  pub mta : Mta
  pub filter : Option (Core P)
  pub to_filter : List ℕ
  pub to_mta : List ℕ
  pub state : State

-- ---- the filter's end

-- it has taken and answered as many bytes as the counts say, and what was sent beyond them is on its way
pub record IsFilterAt {P : Type 0} (b : Behavior) (order : CommandOrder) (policy : P) (lines : List Line) (c : Counts)
    (core : Core P) (pipe : List ℕ) : Type 0 where
  pub goes_on :
      GoesOn b (fresh_core_in order policy) (take c.taken (to_filter lines)) (take c.answered (to_mta lines)) core
  pub on_way : take c.taken (to_filter lines) ++ pipe ≡ take c.sent (to_filter lines)

-- it is there exactly while it lives
abbrev pub IsFilterIn : {P : Type 0} → Behavior → CommandOrder → P → List Line → Counts → Bool → Option (Core P)
    → List ℕ → Type 0
IsFilterIn b order policy lines c true (Some core) pipe = IsFilterAt b order policy lines c core pipe
IsFilterIn b order policy lines c true None pipe = ⊥
IsFilterIn b order policy lines c false (Some core) pipe = ⊥
IsFilterIn b order policy lines c false None pipe = Unit {0}

-- ---- the mail server's end

-- from the start of the session on its reports are by dialogues, and so is its verdict on the connection
pub record IsReportedByDialogues (p : Scenario) (m : Mta) : Type 0 where
  pub dialogues : GoesOnDialogues (fresh p.config p.session) m
  pub connection : ConnectionIsReported m

-- ---- both

-- they are connected, and both are where the counts say in the list of the entries of the connection, which began when
-- so many messages were settled
pub record IsLinked {P : Type 0} (p : Scenario) (settled : ℕ) (c : Counts) (ends : Ends P) : Type 0 where
  pub opened : Mta
  pub opened_settled : length opened.reports ≡ settled
  pub follows : Follows p.config.on_loss opened (entries_at p settled)
  pub mta : IsMtaAt opened (lines_at p settled) c ends.mta
  pub filter : IsFilterIn p.filter ends.order ends.policy (lines_at p settled) c c.lives ends.filter ends.to_filter
  pub answers :
      take c.received (to_mta (lines_at p settled)) ++ ends.to_mta ≡ take c.answered (to_mta (lines_at p settled))
  pub counts : AreCounts (lines_at p settled) c

-- they aren't connected, and so many messages are settled, but not all
pub record IsIdle {P : Type 0} (p : Scenario) (settled : ℕ) (ends : Ends P) : Type 0 where
  pub unconnected : ends.mta.filter_connection ≡ None
  pub settled_is : length ends.mta.reports ≡ settled
  pub some_left : settled < length p.session.messages

abbrev pub IsAt : {P : Type 0} → Scenario → State → Ends P → Type 0
IsAt p (Idle settled) ends = IsIdle p settled ends
IsAt p (Linked settled c) ends = IsLinked p settled c ends
IsAt p Done ends = Unit {0}

-- what is asked of a scenario: both ends follow each connection's transcript, and its bytes can be counted
pub record IsPossible (p : Scenario) : Type 0 where
  -- the filter answers the lines of each connection as they stand, in whichever order it takes commands
  pub answered : (order : CommandOrder) (settled : ℕ) → AnswersLines order p.filter (lines_at p settled)
  -- and the mail server's end follows them
  pub followed : (settled : ℕ) (m : Mta) → settled < length p.session.messages → m.filter_connection ≡ None →
      m.config ≡ p.config →
      m.session ≡ record p.session { messages = drop settled p.session.messages } →
      Follows p.config.on_loss (dialled m) (entries_at p settled)
  -- where no further packet is due all answers have come, as the last packet has none
  pub last_unanswered : (settled received : ℕ) → due (lines_at p settled) received
      ≡ length (to_filter (lines_at p settled)) →
      length (to_mta (lines_at p settled)) ≤ received
  pub short_to_filter : (settled : ℕ) → length (to_filter (lines_at p settled)) < 2 ^ 128
  pub short_to_mta : (settled : ℕ) → length (to_mta (lines_at p settled)) < 2 ^ 128

-- the ends are of the scenario, and where their state says
pub record AreEndsOf {P : Type 0} (p : Scenario) (ends : Ends P) : Type 0 where
  pub possible : IsPossible p
  pub by_dialogues : IsReportedByDialogues p ends.mta
  pub is_at : IsAt p ends.state ends

-- before their first connection
abbrev pub fresh_ends : {P : Type 0} → Scenario → CommandOrder → P → Ends P
fresh_ends p order policy =
    record {
      policy = policy;
      order = order;
      mta = fresh p.config p.session;
      filter = None;
      to_filter = [];
      to_mta = [];
      state = first p;
    }

-- an event takes them to the state that the schedule has, and adds its reports
pub record Steps {P : Type 0} (p : Scenario) (old : Ends P) (event : Event) (new : Ends P) : Type 0 where
  pub is : AreEndsOf p new
  pub policy : new.policy ≡ old.policy
  pub order : new.order ≡ old.order
  pub state : new.state ≡ (happens p old.state event).state
  pub reports : new.mta.reports ≡ old.mta.reports ++ (happens p old.state event).reports

-- ---- what an event does

-- how many bytes are sent of at most so many: those of the packet that are left
abbrev pub sent_count : ℕ → Mta → ℕ
sent_count n m = min n (length (pending (advanced m)))

-- the packet was made, and so many bytes of it were sent
abbrev pub mta_sent : ℕ → Mta → Mta
mta_sent n m = sent (sent_count n m) (advanced m)

-- the connection was lost, or none could be made
abbrev pub lost_ends : {P : Type 0} → Loss → Ends P → State → Ends P
lost_ends loss ends state =
    record {
      policy = ends.policy;
      order = ends.order;
      mta = lost loss ends.mta;
      filter = None;
      to_filter = [];
      to_mta = [];
      state = state;
    }

-- it needs a connection
abbrev pub IsOfConnection : Event → Type 0
IsOfConnection Dial = ⊥
IsOfConnection Lose = ⊥
IsOfConnection Timeout = ⊥
IsOfConnection other = Unit {0}

-- it needs a filter that lives
abbrev pub IsOfFilter : Event → Type 0
IsOfFilter (ToFilter n) = Unit {0}
IsOfFilter (Answer n) = Unit {0}
IsOfFilter other = ⊥

-- it is this loss
abbrev pub IsLossBy : Loss → Event → Type 0
IsLossBy loss Lose = loss ≡ Reset
IsLossBy loss Timeout = loss ≡ losses.Timeout
IsLossBy loss other = ⊥
