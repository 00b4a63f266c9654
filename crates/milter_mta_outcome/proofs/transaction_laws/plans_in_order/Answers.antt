use Rattle.milter_mail.specs.Plan.{macros_of}
use Rattle.milter_mta_outcome.proofs.PlanOrders.{plan-within, within-message, within-opening}
use Rattle.milter_mta_outcome.proofs.transaction_laws.plans_in_order.Goals as goal

pub returns-clause-opening : goal.returns-clause-opening
returns-clause-opening c negotiated session = within-opening negotiated (macros_of negotiated session) session.client session.helo

pub returns-clause-message : goal.returns-clause-message
returns-clause-message c negotiated macros message = within-message negotiated macros message

pub returns-clause-plan : goal.returns-clause-plan
returns-clause-plan c negotiated session message = plan-within negotiated session message
