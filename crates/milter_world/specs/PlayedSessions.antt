-- One connection over which everything arrives.
use Rattle.std.specs.Prelude.{◌≡◌, ℕ, suc, true, List}
use Rattle.milter_world.specs.declared.event_line.Event.{Event}
use Rattle.milter_world.specs.declared.state.State.{State}
use Rattle.milter_world.specs.declared.state.State.TheVariants.{Idle, Linked, Done}
use Rattle.milter_world.specs.Rounds.{to_move}
use Rattle.milter_world.specs.Schedule.{Scenario, after_all, first, lines_at, stays}
use Rattle.milter_world.specs.DialogueReports.{count_events, is_lose, is_timeout}
use Rattle.milter_world.specs.Ends.{AreEndsOf, Ends}
use Rattle.milter_world.specs.Reached.{after_of}

-- a connection with a filter that lives is there, or all is over
abbrev pub Lives : State → Type 0
Lives (Idle settled) = ⊥
Lives (Linked settled c) = c.lives ≡ true
Lives Done = Unit {0}

-- how many bytes are to move until all is over
abbrev pub left_to_move : Scenario → State → ℕ
left_to_move p (Linked settled c) = suc (to_move (lines_at p settled) c)
left_to_move p other = 0

-- events without a loss or a timeout led to both ends, and the filter lives
pub record AreUndisturbed {P : Type 0} (p : Scenario) (ends : Ends P) : Type 0 where
  pub are : AreEndsOf p ends
  pub lives : Lives ends.state
  pub events : List Event
  pub no_loss : count_events is_lose events ≡ 0
  pub no_timeout : count_events is_timeout events ≡ 0
  pub after : after_of ends ≡ after_all p (stays (first p)) events
