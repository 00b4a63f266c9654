use Rattle.milter_mail.proofs.Weights.{weight-sum}
use Rattle.milter_mail.proofs.laws.weight_of_parts.Goals as goal

pub returns : goal.returns
returns c client helo macros m = weight-sum client helo macros m
