use Rattle.std.proofs.Common.{arith}
use Rattle.std.proofs.lemmas.Grind.{common_steps}
use Rattle.milter_world.proofs.world.World.die.Goals as goal

pub returns-in-Linked : goal.returns-in-Linked
returns-in-Linked g c = grind (arith, common_steps)
