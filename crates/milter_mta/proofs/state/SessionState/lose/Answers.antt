use Rattle.std.proofs.Common.{arith}
use Rattle.std.proofs.lemmas.Grind.{common_steps}
use Rattle.milter_mta.proofs.state.SessionState.lose.Goals as goal

pub returns-in-Sending-clause-lost : goal.returns-in-Sending-clause-lost
returns-in-Sending-clause-lost c = grind (arith, common_steps)
