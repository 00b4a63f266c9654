use Rattle.std.proofs.Common.{arith}
use Rattle.std.proofs.lemmas.Grind.{common_steps}
use Rattle.milter_fields.specs.Number.{number_from_bytes}
use Rattle.milter_fields.proofs.number.number_from_bytes.Goals as goal

pub returns : goal.returns
unfolding number_from_bytes
returns c = grind (arith, common_steps)
