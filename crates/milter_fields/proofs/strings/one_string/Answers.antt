use Rattle.std.proofs.Common.{arith}
use Rattle.std.proofs.lemmas.Grind.{common_steps}
use Rattle.milter_fields.specs.Decoders.{string_in}
use Rattle.milter_fields.proofs.strings.one_string.Goals as goal

pub returns : goal.returns
unfolding string_in
returns c = grind (arith, common_steps)
