use Rattle.std.proofs.Common.{arith}
use Rattle.std.proofs.lemmas.Grind.{common_steps}
use Rattle.milter_mta_outcome.proofs.plan_cursor.command_at.Goals as goal

pub returns-in-Eoh : goal.returns-in-Eoh
returns-in-Eoh c = grind (arith, common_steps)
