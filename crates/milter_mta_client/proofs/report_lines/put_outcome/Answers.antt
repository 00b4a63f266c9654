use Rattle.std.proofs.Common.{arith}
use Rattle.std.proofs.lemmas.Grind.{common_steps}
use Rattle.milter_mta_client.proofs.report_lines.put_outcome.Goals as goal

pub returns-in-Refused : goal.returns-in-Refused
returns-in-Refused g c = grind (arith, common_steps)
