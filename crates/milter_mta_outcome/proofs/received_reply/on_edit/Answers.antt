use Rattle.std.proofs.Common.{arith}
use Rattle.std.proofs.lemmas.Grind.{common_steps}
use Rattle.milter_mta_outcome.proofs.received_reply.on_edit.Goals as goal

pub returns-then-weight : goal.returns-then-weight
returns-then-weight c = grind (arith, common_steps)

pub returns : goal.returns
returns c = grind (arith, common_steps)
