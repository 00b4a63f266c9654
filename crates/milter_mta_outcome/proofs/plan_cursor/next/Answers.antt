use Rattle.milter_mta_outcome.specs.OutgoingValue.{outgoing}
use Rattle.milter_mta_outcome.proofs.CursorSteps.{one_further}
use Rattle.milter_mta_outcome.proofs.plan_cursor.next.Goals as goal

pub returns-clause-left : goal.returns-clause-left
returns-clause-left c = one_further (outgoing c.args.of.now) c.args.cursor.stage c.args.cursor.step c.requires.there
