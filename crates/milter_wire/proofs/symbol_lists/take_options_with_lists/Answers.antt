use Rattle.std.proofs.Common.{arith}
use Rattle.milter_wire.specs.OptionsPayload.{options_with_lists_in}
use Rattle.std.proofs.lemmas.Grind.{common_steps}
use Rattle.milter_wire.proofs.symbol_lists.take_options_with_lists.Goals as goal

pub returns-in_err-lists : goal.returns-in_err-lists
unfolding options_with_lists_in
returns-in_err-lists c = grind (arith, common_steps)

pub returns-in_default-2 : goal.returns-in_default-2
unfolding options_with_lists_in
returns-in_default-2 c = grind (arith, common_steps)

pub returns : goal.returns
unfolding options_with_lists_in
returns c = grind (arith, common_steps)
