use Rattle.milter_mta_outcome.proofs.PlanOrders.{message-of, plan-bytes, plan-of}
use Rattle.milter_mta_outcome.proofs.transaction_laws.plans_in_parts.Goals as goal

pub returns-clause-connection : goal.returns-clause-connection
returns-clause-connection c negotiated session message = plan-of negotiated session message

pub returns-clause-message : goal.returns-clause-message
returns-clause-message c negotiated macros message = message-of negotiated macros message

pub returns-clause-bytes : goal.returns-clause-bytes
returns-clause-bytes c negotiated session message = plan-bytes negotiated session message
