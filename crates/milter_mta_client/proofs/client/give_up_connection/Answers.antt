use Rattle.std.proofs.Common.{arith}
use Rattle.std.proofs.lemmas.Grind.{common_steps}
use Rattle.milter_mta_client.proofs.client.give_up_connection.Goals as goal

pub returns-else-matches-clause-events : goal.returns-else-matches-clause-events
returns-else-matches-clause-events c = grind (arith, common_steps)

pub returns-else-matches-clause-between : goal.returns-else-matches-clause-between
returns-else-matches-clause-between c = grind (arith, common_steps)
