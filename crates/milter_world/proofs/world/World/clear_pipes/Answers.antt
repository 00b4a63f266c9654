use Rattle.std.proofs.Common.{arith}
use Rattle.std.proofs.lemmas.Grind.{common_steps}
use Rattle.milter_world.proofs.world.World.clear_pipes.Goals as goal

pub returns : goal.returns
returns g c = grind (arith, common_steps)
