use Rattle.std.proofs.Common.{arith, rules}
use Rattle.std.proofs.lemmas.Grind.{common_steps}
use Rattle.milter_filter_stream.proofs.MacroLists.{connection-kept}
use Rattle.milter_filter_stream.proofs.macro_list.MacroList.end_message.Goals as goal

pub returns-clause-connection : goal.returns-clause-connection
returns-clause-connection c = search (rules, connection-kept)

pub invariant_of-self : goal.invariant_of-self
invariant_of-self c = grind (arith, common_steps)
