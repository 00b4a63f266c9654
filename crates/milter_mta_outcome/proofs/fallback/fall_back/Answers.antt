use Rattle.std.proofs.Common.{arith}
use Rattle.std.proofs.lemmas.Grind.{common_steps}
use Rattle.milter_mta_outcome.proofs.fallback.fall_back.Goals as goal

pub returns-in-Accept : goal.returns-in-Accept
returns-in-Accept c = grind (arith, common_steps)
