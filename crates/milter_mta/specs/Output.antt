-- What a mail server's end wants, and the packets that it sends.
use Rattle.std.specs.Prelude.{ℕ, Bool, true, false, List, [], ◌∷◌, drop, Option, None, Some, if◌then◌else◌}
use Rattle.milter_wire.specs.declared.options.Options.{Options}
use Rattle.milter_wire.specs.declared.command.Command.{Command}
use Rattle.milter_wire.specs.declared.command.Command.TheVariants as commands
use Rattle.milter_wire.specs.Command.{encoding}
use Rattle.milter_message.specs.MailObject.{MailObject}
use Rattle.milter_mta_outcome.specs.Transactions.{asks_first, first_of}
use Rattle.milter_mta.specs.declared.mta_core.Want.{Want}
use Rattle.milter_mta.specs.declared.mta_core.Want.TheVariants as wants
use Rattle.milter_mta.specs.Mta.{Configuration, FilterConnection, Mta, Position, at_packet}
use Rattle.milter_mta.specs.Mta.Position.{Offering, Sending, Quitting, Ended}

-- ---- the next packet

abbrev pub command_of_position : Options → Position → Option Command
command_of_position offer Offering = Some (commands.Options offer)
command_of_position offer (Sending negotiated acted edits left) = first_of left
command_of_position offer Quitting = Some commands.Quit
command_of_position offer Ended = None

-- the end of a message comes before the next packet
abbrev pub command_at : Options → Bool → Position → Option Command
command_at offer true position = Some commands.Abort
command_at offer false position = command_of_position offer position

abbrev pub bytes_at : Option Command → List ℕ
bytes_at None = []
bytes_at (Some command) = encoding command

-- the packet has a reply
abbrev pub asks_at : Position → Bool
asks_at Offering = true
asks_at (Sending negotiated acted edits left) = asks_first negotiated left
asks_at other = false

-- what follows a packet without a reply
abbrev pub after_packet : Position → Position
after_packet (Sending negotiated acted edits left) = Sending negotiated acted edits (drop 1 left)
after_packet Quitting = Ended
after_packet other = other

-- ---- what is wanted

abbrev pub want_unconnected : List MailObject → Want
want_unconnected [] = wants.Done
want_unconnected (message ∷ messages) = wants.Dial

abbrev pub want_if_owed : Bool → Want
want_if_owed true = wants.Receive
want_if_owed false = wants.Send

abbrev pub want_at : Bool → Position → Bool → Want
want_at false Ended owed = wants.Done
want_at aborts position owed = want_if_owed owed

abbrev pub want_in : Option FilterConnection → List MailObject → Want
want_in None messages = want_unconnected messages
want_in (Some filter_connection) messages =
    want_at filter_connection.aborts filter_connection.position filter_connection.owed

abbrev pub want : Mta → Want
want m = want_in m.filter_connection m.session.messages

-- ---- what the calls do

abbrev pub dialled_if : Want → Mta → Mta
dialled_if wants.Dial m = record m { filter_connection = Some (at_packet Offering) }
dialled_if other m = m

-- a connection is there
abbrev pub dialled : Mta → Mta
dialled m = dialled_if (want m) m

abbrev pub pending_in : Option FilterConnection → List ℕ
pending_in None = []
pending_in (Some filter_connection) = filter_connection.pending

abbrev pub pending : Mta → List ℕ
pending m = pending_in m.filter_connection

-- the bytes that are left, or else the packet
abbrev pub pending_or : List ℕ → Option Command → List ℕ
pending_or [] command = bytes_at command
pending_or (byte ∷ bytes) command = byte ∷ bytes

-- the packet is made, where none is pending
abbrev pub made : Configuration → FilterConnection → FilterConnection
made config filter_connection =
    record filter_connection {
      pending = pending_or filter_connection.pending
          (command_at config.offer filter_connection.aborts filter_connection.position);
    }

abbrev pub advanced_in : Option FilterConnection → Want → Mta → Mta
advanced_in (Some filter_connection) wants.Send m =
    record m { filter_connection = Some (made m.config filter_connection) }
advanced_in filter_connection other m = m

abbrev pub advanced : Mta → Mta
advanced m = advanced_in m.filter_connection (want m) m

-- the packet was sent: its reply is owed, or the next one follows
abbrev pub finished : FilterConnection → FilterConnection
finished filter_connection =
    if filter_connection.aborts then record filter_connection { aborts = false; pending = []; owed = false }
    else if asks_at filter_connection.position then record filter_connection { pending = []; owed = true }
    else record filter_connection { position = after_packet filter_connection.position; pending = []; owed = false }

-- these bytes are left of what was pending
abbrev pub sent_from : FilterConnection → List ℕ → FilterConnection
sent_from filter_connection [] = finished filter_connection
sent_from filter_connection (byte ∷ bytes) = record filter_connection { pending = byte ∷ bytes }

-- the first `count` of the bytes that are pending were sent
abbrev pub sent_of : ℕ → List ℕ → FilterConnection → FilterConnection
sent_of count [] filter_connection = filter_connection
sent_of count (byte ∷ bytes) filter_connection = sent_from filter_connection (drop count (byte ∷ bytes))

abbrev pub sent_in : ℕ → Option FilterConnection → Mta → Mta
sent_in count None m = m
sent_in count (Some filter_connection) m =
    record m { filter_connection = Some (sent_of count filter_connection.pending filter_connection) }

abbrev pub sent : ℕ → Mta → Mta
sent count m = sent_in count m.filter_connection m
