use Rattle.std.proofs.Common.{arith}
use Rattle.std.proofs.lemmas.Grind.{common_steps}
use Rattle.milter_mta_outcome.proofs.disposition.outcome_of.Goals as goal

pub returns-in-Eob-clause-settled : goal.returns-in-Eob-clause-settled
returns-in-Eob-clause-settled c = grind (arith, common_steps)
