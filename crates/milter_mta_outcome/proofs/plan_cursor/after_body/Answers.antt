use Rattle.milter_mta_outcome.specs.OutgoingValue.{outgoing}
use Rattle.milter_mta_outcome.proofs.CursorSteps.{after_body}
use Rattle.milter_mta_outcome.proofs.plan_cursor.after_body.Goals as goal

pub returns-clause-left : goal.returns-clause-left
returns-clause-left c = rw c.requires (after_body (outgoing c.args.of.now) c.args.cursor.step)
