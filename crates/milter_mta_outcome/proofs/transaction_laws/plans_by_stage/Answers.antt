use Rattle.milter_mta_outcome.specs.PlanCursor.{outgoing_of}
use Rattle.milter_mta_outcome.proofs.PlanStages.{message_by_stages, plan_by_stages}
use Rattle.milter_mta_outcome.proofs.transaction_laws.plans_by_stage.Goals as goal

pub returns-clause-message : goal.returns-clause-message
returns-clause-message c o = message_by_stages o

pub returns-clause-plan : goal.returns-clause-plan
returns-clause-plan c negotiated session message = plan_by_stages (outgoing_of negotiated session message)
