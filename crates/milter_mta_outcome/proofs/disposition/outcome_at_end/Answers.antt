use Rattle.std.proofs.Common.{arith}
use Rattle.std.proofs.lemmas.Grind.{common_steps}
use Rattle.milter_mta_outcome.proofs.disposition.outcome_at_end.Goals as goal

pub returns-in-Continue : goal.returns-in-Continue
returns-in-Continue c = grind (arith, common_steps)
