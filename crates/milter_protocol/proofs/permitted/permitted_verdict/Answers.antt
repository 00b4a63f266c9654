use Rattle.std.proofs.Common.{arith}
use Rattle.std.proofs.lemmas.Grind.{common_steps}
use Rattle.milter_protocol.proofs.permitted.permitted_verdict.Goals as goal

pub returns-in-Skip : goal.returns-in-Skip
returns-in-Skip c = grind (arith, common_steps)

pub returns-in_default : goal.returns-in_default
returns-in_default c = grind (arith, common_steps)
