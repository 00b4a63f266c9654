use Rattle.std.proofs.Common.{arith}
use Rattle.std.proofs.lemmas.Grind.{common_steps}
use Rattle.milter_mta.proofs.state.SessionState.lose_transaction.Goals as goal

pub returns-clause-lost : goal.returns-clause-lost
returns-clause-lost c = grind (arith, common_steps)
