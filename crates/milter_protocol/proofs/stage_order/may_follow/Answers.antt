use Rattle.std.proofs.Common.{arith}
use Rattle.std.proofs.lemmas.Grind.{common_steps}
use Rattle.milter_protocol.proofs.stage_order.may_follow.Goals as goal

pub returns-then-may_repeat : goal.returns-then-may_repeat
returns-then-may_repeat c = grind (arith, common_steps)
