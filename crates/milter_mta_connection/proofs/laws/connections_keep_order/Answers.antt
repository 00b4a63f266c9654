use Rattle.std.proofs.Common.{arith}
use Rattle.milter_mta_connection.specs.Connection.{fresh}
use Rattle.milter_mta_connection.proofs.CallOrder.{all_in_order}
use Rattle.milter_mta_connection.proofs.laws.connections_keep_order.Goals as goal

pub returns : goal.returns
returns c offer events = all_in_order events (fresh offer) 0 (omega arith)
