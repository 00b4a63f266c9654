use Rattle.std.proofs.Common.{List, [], ◌∷◌, ap}
use Rattle.milter_wire.specs.declared.command.Command.{Command}
use Rattle.milter_protocol.specs.Behavior.{exchange_of}
use Rattle.milter_protocol.specs.Exchanges.{commands_of}
use Rattle.milter_protocol.proofs.Sendable.{sendable-out}
use Rattle.milter_mta_outcome.specs.Dialogues.{acted}
use Rattle.milter_mta.specs.Mta.{at_packet}
use Rattle.milter_mta.specs.Mta.Position.{Sending}
use Rattle.milter_mta.specs.Replies.{at}
use Rattle.milter_mta.proofs.Exchanges.{packet-is}
use Rattle.milter_mta.proofs.Ordered.{order-before}
use Rattle.milter_mta.proofs.Played.{goes}
use Rattle.milter_mta.proofs.exchange_laws.exchanges_are_played.Goals as goal

pub returns-clause-packet : goal.returns-clause-packet
returns-clause-packet c b negotiated m dialogue command left stays = packet-is negotiated m (exchange_of b negotiated (commands_of dialogue) command) dialogue left stays

pub returns-clause-answer : goal.returns-clause-answer
returns-clause-answer c b negotiated m dialogue command left lawful some is stays =
    goes (λ m filter_connection reply owed unread some fits. c.replies_are_received.ensures m filter_connection reply owed unread some fits)
    b lawful negotiated m some dialogue command left stays is.proper (order-before left (command ∷ commands_of dialogue) is.in_order)

pub returns-clause-left_out : goal.returns-clause-left_out
returns-clause-left_out c negotiated m dialogue command left out =
    ap (λ (l : List Command). at (at_packet (Sending negotiated (acted dialogue) [] l)) m) (sendable-out dialogue command left out)
