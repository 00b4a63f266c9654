use Rattle.milter_mail.proofs.PlanWeight.{plan_weight}
use Rattle.milter_mail.proofs.laws.weight_of_any_plan.Goals as goal

pub returns : goal.returns
returns c negotiated session m = plan_weight negotiated session m
