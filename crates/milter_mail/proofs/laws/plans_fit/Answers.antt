use Rattle.milter_mail.proofs.PlanFits.{plan_fits}
use Rattle.milter_mail.proofs.laws.plans_fit.Goals as goal

pub returns : goal.returns
returns c = plan_fits
