-- The parts of a command and of a reply, in the order of its payload.
use Rattle.std.specs.Prelude.{ℕ, List, [], ◌∷◌, ◌++◌, Option, None, Some, map}
use Rattle.milter_fields.specs.declared.client.Client.{Client}
use Rattle.milter_fields.specs.declared.client.Origin.{Origin}
use Rattle.milter_fields.specs.declared.client.Origin.TheVariants as origins
use Rattle.milter_fields.specs.declared.header.Header.{Header}
use Rattle.milter_fields.specs.declared.pair.Pair.{Pair}
use Rattle.milter_fields.specs.declared.path.Path.{Path}
use Rattle.milter_wire.specs.declared.options.Options.{Options}
use Rattle.milter_wire.specs.declared.symbol_lists.SymList.{SymList}
use Rattle.milter_wire.specs.declared.command.Command.{Command}
use Rattle.milter_wire.specs.declared.command.Command.TheVariants as commands
use Rattle.milter_wire.specs.declared.reply.Reply.{Reply}
use Rattle.milter_wire.specs.declared.reply.Reply.TheVariants as replies
use Rattle.milter_c_objects.specs.declared.status.TheConstants.{FAMILY_INET, FAMILY_INET6, FAMILY_UNIX, FAMILY_UNKNOWN}
use Rattle.milter_c_objects.specs.declared.decoded.Decoded.{Decoded}
use Rattle.milter_c_objects.specs.declared.decoded.Decoded.TheVariants as packets
use Rattle.milter_c_objects.specs.declared.part.Part.{Part}

-- the texts and the numbers of a part
pub record PartValue : Type 0 where
  pub first : List ℕ
  pub second : List ℕ
  pub kind : ℕ
  pub number : ℕ

abbrev pub value_of : Part → PartValue
value_of part =
    record { first = part.first.now; second = part.second.now; kind = part.kind; number = part.number }

-- ---- parts of one form

abbrev pub text_part : List ℕ → PartValue
text_part text = record { first = text; second = []; kind = 0; number = 0 }

abbrev pub number_part : ℕ → PartValue
number_part n = record { first = []; second = []; kind = 0; number = n }

-- a name and a value, with an index
abbrev pub header_part : ℕ → Header → PartValue
header_part index header = record { first = header.name; second = header.value; kind = 0; number = index }

abbrev pub pair_part : Pair → PartValue
pair_part pair = record { first = pair.name; second = pair.value; kind = 0; number = 0 }

-- an address, and its arguments where it has some
abbrev pub arguments_part : List ℕ → Option (List ℕ) → PartValue
arguments_part address None = text_part address
arguments_part address (Some arguments) = record { first = address; second = arguments; kind = 1; number = 0 }

-- the stage of a symbol list, and its names
abbrev pub symbols_part : SymList → PartValue
symbols_part list = record { first = list.names; second = []; kind = 0; number = list.stage }

-- the host, and of a known address the family, the port and the text
abbrev pub client_part : List ℕ → Origin → PartValue
client_part host origins.Unknown = record { first = host; second = []; kind = FAMILY_UNKNOWN; number = 0 }
client_part host (origins.Unix port address) =
    record { first = host; second = address; kind = FAMILY_UNIX; number = port }
client_part host (origins.Inet port address) =
    record { first = host; second = address; kind = FAMILY_INET; number = port }
client_part host (origins.Inet6 port address) =
    record { first = host; second = address; kind = FAMILY_INET6; number = port }

-- ---- all parts

-- the address, and then each parameter
abbrev pub path_parts : Path → List PartValue
path_parts path = text_part path.address ∷ map text_part path.params

-- the version, the actions and the protocol
abbrev pub options_parts : Options → List PartValue
options_parts options =
    number_part options.version ∷ number_part options.actions.0 ∷ number_part options.protocol.0 ∷ []

abbrev pub command_parts : Command → List PartValue
command_parts (commands.Options options) = options_parts options
command_parts (commands.Macro code pairs) = number_part code ∷ map pair_part pairs
command_parts (commands.Connect client) = client_part client.host client.origin ∷ []
command_parts (commands.Helo name) = text_part name ∷ []
command_parts (commands.Mail sender) = path_parts sender
command_parts (commands.Rcpt recipient) = path_parts recipient
command_parts commands.DataCmd = []
command_parts (commands.Header header) = header_part 0 header ∷ []
command_parts commands.Eoh = []
command_parts (commands.Body bytes) = text_part bytes ∷ []
command_parts (commands.Eob bytes) = text_part bytes ∷ []
command_parts (commands.Unknown text) = text_part text ∷ []
command_parts commands.Abort = []
command_parts commands.Quit = []
command_parts commands.QuitNew = []

abbrev pub reply_parts : Reply → List PartValue
reply_parts (replies.Options options lists) = options_parts options ++ map symbols_part lists
reply_parts (replies.AddRcpt address) = text_part address ∷ []
reply_parts (replies.DelRcpt address) = text_part address ∷ []
reply_parts (replies.AddRcptPar address arguments) = arguments_part address arguments ∷ []
reply_parts replies.Accept = []
reply_parts (replies.ReplaceBody bytes) = text_part bytes ∷ []
reply_parts replies.Continue = []
reply_parts replies.Discard = []
reply_parts (replies.ChangeFrom address arguments) = arguments_part address arguments ∷ []
reply_parts (replies.AddHeader header) = header_part 0 header ∷ []
reply_parts (replies.InsertHeader index header) = header_part index header ∷ []
reply_parts (replies.ChangeHeader index header) = header_part index header ∷ []
reply_parts replies.Progress = []
reply_parts (replies.Quarantine reason) = text_part reason ∷ []
reply_parts replies.Reject = []
reply_parts replies.Skip = []
reply_parts replies.Tempfail = []
reply_parts (replies.Code text) = text_part text ∷ []

abbrev pub parts_of : Decoded → List PartValue
parts_of (packets.Command command) = command_parts command
parts_of (packets.Reply reply) = reply_parts reply
