use Rattle.std.proofs.Common.{arith}
use Rattle.std.proofs.lemmas.Grind.{common_steps}
use Rattle.milter_mta_outcome.proofs.disposition.release.Goals as goal

pub returns-in-Err-clause-released : goal.returns-in-Err-clause-released
returns-in-Err-clause-released c = grind (arith, common_steps)
