use Rattle.milter_protocol.specs.OrderStates.{order_step}
use Rattle.milter_protocol.proofs.StepSequences.{after-append, replies-append}
use Rattle.milter_protocol.proofs.filter_end_laws.order_states_go_on.Goals as goal

pub returns-clause-order_state : goal.returns-clause-order_state
returns-clause-order_state c = λ b. after-append (order_step b)

pub returns-clause-replies : goal.returns-clause-replies
returns-clause-replies c = λ b. replies-append (order_step b)
