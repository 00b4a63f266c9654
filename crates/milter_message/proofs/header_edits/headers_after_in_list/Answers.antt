use Rattle.std.proofs.Common.{arith}
use Rattle.std.proofs.lemmas.Grind.{common_steps}
use Rattle.milter_message.proofs.header_edits.headers_after_in_list.Goals as goal

pub loop-edit-preserved : goal.loop-edit-preserved
loop-edit-preserved c = grind (arith, common_steps)
