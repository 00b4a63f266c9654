use Rattle.std.proofs.Common.{rules}
use Rattle.milter_mta_outcome.proofs.transaction.Transaction.is_asked.Goals as goal

pub returns-in-Some-clause-asks : goal.returns-in-Some-clause-asks
returns-in-Some-clause-asks c = search rules
