use Rattle.std.proofs.Common.{arith}
use Rattle.std.proofs.lemmas.Grind.{common_steps}
use Rattle.milter_wire.proofs.options.common_options.Goals as goal

pub returns : goal.returns
returns c = grind (arith, common_steps)
