use Rattle.std.proofs.Common.{arith}
use Rattle.std.proofs.lemmas.Grind.{common_steps}
use Rattle.milter_message.proofs.edit.Edit.payload.Goals as goal

pub returns-in-ReplaceBody-clause-bytes : goal.returns-in-ReplaceBody-clause-bytes
returns-in-ReplaceBody-clause-bytes c = grind (arith, common_steps)

pub returns-in-ReplaceBody-clause-fits : goal.returns-in-ReplaceBody-clause-fits
returns-in-ReplaceBody-clause-fits c = grind (arith, common_steps)
