use Rattle.milter_mta_outcome.proofs.PlanLaws.{begun_sends}
use Rattle.milter_mta_outcome.proofs.transaction_laws.transactions_begin.Goals as goal

pub returns : goal.returns
returns c = begun_sends
