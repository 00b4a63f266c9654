use Rattle.std.proofs.Common.{◌≡◌, ◌≤◌, length}
use Rattle.milter_mta_outcome.specs.OutgoingValue.{outgoing}
use Rattle.milter_mta_outcome.specs.PlanCursor.{stages_after, steps_from}
use Rattle.milter_mta_outcome.proofs.plan_cursor.first_from.Given as goal

-- no command was passed over
abbrev pub invariant-loop-stage : goal.invariant-loop-stage
invariant-loop-stage l =
    (steps_from (outgoing l.of) l.at.stage l.at.step ≡ steps_from (outgoing l.of) l.fn.cursor.stage l.fn.cursor.step)
    × (l.at.step ≤ l.fn.cursor.step)

abbrev pub decreases-loop-stage : goal.decreases-loop-stage
decreases-loop-stage l = length (stages_after l.at.stage)
