-- Where a world is, and where an event takes it.
use Rattle.std.specs.Prelude.{◌≡◌, ◌≢◌, ℕ, List, [], ◌++◌, length}
use Rattle.milter_mail.specs.MailSession.{MailSession}
use Rattle.milter_protocol.specs.Behavior.{Behavior}
use Rattle.milter_protocol.specs.declared.filter_fault.FilterFault.{FilterFault}
use Rattle.milter_mta.specs.Mta.{Configuration}
use Rattle.milter_filter.specs.Cores.{Core, GivesUp, Takes}
use Rattle.milter_filter_stream.specs.Streams.{received_in}
use Rattle.milter_world.specs.declared.event_line.Event.{Event}
use Rattle.milter_world.specs.Schedule.{After, Scenario, after_all}
use Rattle.milter_world.specs.Ends.{AreEndsOf, Ends, Steps}

abbrev pub scenario_of : Behavior → Configuration → MailSession → Scenario
scenario_of filter config session = record { filter = filter; config = config; session = session }

-- some scenario with this filter leads to both ends: a configuration and a session, which no value keeps from the
-- first event on
pub record AreReached {P : Type 0} (b : Behavior) (ends : Ends P) : Type 0 where
  pub scenario : Scenario
  pub filter : scenario.filter ≡ b
  pub are : AreEndsOf scenario ends

-- of each scenario with this filter that leads to the old ends, the event leads to the new ones
abbrev pub StepsTo : {P : Type 0} → Behavior → Ends P → Event → Ends P → Type 0
StepsTo b old event new = (p : Scenario) → p.filter ≡ b → AreEndsOf p old → Steps p old event new

-- how far the schedule is, with all reports so far
abbrev pub after_of : {P : Type 0} → Ends P → After
after_of ends = record { state = ends.state; reports = ends.mta.reports }

-- these events lead from the old ends to the new ones
pub record Leads {P : Type 0} (p : Scenario) (old : Ends P) (events : List Event) (new : Ends P) : Type 0 where
  pub are : AreEndsOf p new
  pub policy : new.policy ≡ old.policy
  pub after : after_of new ≡ after_all p (after_of old) events

-- where a filter's end has nothing to send it takes all of the piece and finds no fault in it; else there is nothing
-- to take
pub record CanTake {P : Type 0} (b : Behavior) (core : Core P) (piece : List ℕ) : Type 0 where
  pub waits : core.pending ≢ [] → length piece ≡ 0
  pub all : (n : ℕ) (new : Core P) → core.pending ≡ [] → Takes b core piece n new → n ≡ length piece
  pub sound : (fault : FilterFault) → core.pending ≡ [] →
      ¬ GivesUp b core.order_state (received_in (core.unread ++ piece)) fault
