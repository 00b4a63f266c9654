use Rattle.milter_protocol.proofs.OrderStates.{order_state-after, order_state-replies}
use Rattle.milter_protocol.proofs.filter_end_laws.order_states_of_filter_ends.Goals as goal

pub returns-clause-order_state : goal.returns-clause-order_state
returns-clause-order_state c = order_state-after

pub returns-clause-replies : goal.returns-clause-replies
returns-clause-replies c = order_state-replies
