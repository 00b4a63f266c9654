use Rattle.std.proofs.Common.{arith}
use Rattle.std.proofs.lemmas.Grind.{common_steps}
use Rattle.milter_wire.proofs.verdict.Verdict.into_reply.Goals as goal

pub returns-in-Reject : goal.returns-in-Reject
returns-in-Reject c = grind (arith, common_steps)
