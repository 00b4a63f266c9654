use Rattle.std.proofs.Common.{arith}
use Rattle.milter_mta_connection.proofs.Offered.{options_fit}
use Rattle.milter_mta_connection.proofs.mta_channel.MtaChannel.queue_offer.Goals as goal

pub append-requires : goal.append-requires
append-requires c = options_fit c.offer.result (record { version = omega arith; actions = omega arith; protocol = omega arith })
