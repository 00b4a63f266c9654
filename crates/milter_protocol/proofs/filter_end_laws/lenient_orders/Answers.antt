use Rattle.milter_protocol.proofs.Lenient.{orders-replies, orders-state}
use Rattle.milter_protocol.proofs.filter_end_laws.lenient_orders.Goals as goal

pub returns-clause-state : goal.returns-clause-state
returns-clause-state c = orders-state

pub returns-clause-replies : goal.returns-clause-replies
returns-clause-replies c = orders-replies
