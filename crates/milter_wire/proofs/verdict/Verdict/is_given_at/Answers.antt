use Rattle.std.proofs.Common.{arith}
use Rattle.std.proofs.lemmas.Grind.{common_steps}
use Rattle.milter_wire.proofs.verdict.Verdict.is_given_at.Goals as goal

pub returns-in-Skip : goal.returns-in-Skip
returns-in-Skip c = grind (arith, common_steps)
