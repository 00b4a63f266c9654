-- How a packet is printed: its direction, its code and its fields.
use Rattle.std.specs.Prelude.{◌≡◌, ℕ, false, List, [], ◌∷◌, ◌++◌, map, codes, length, take, decimal, Option, Some, None, Result, Ok, Err, if◌then◌else◌}
use Rattle.std.specs.List.{flat_map}
use Rattle.hex.specs.Hex.{encode_lower}
use Rattle.milter_fields.specs.declared.fault.WireFault.{WireFault}
use Rattle.milter_fields.specs.declared.fault.WireFault.TheVariants.{ZeroLength, TooLong, UnknownCode, Malformed, Truncated, NoMemory}
use Rattle.milter_fields.specs.declared.client.Client.{Client}
use Rattle.milter_fields.specs.declared.client.Origin.{Origin}
use Rattle.milter_fields.specs.declared.client.Origin.TheVariants as origins
use Rattle.milter_fields.specs.declared.header.Header.{Header}
use Rattle.milter_wire.specs.Bits.{actions_table, names_text, protocol_table}
use Rattle.milter_wire.specs.declared.options.Options.{Options}
use Rattle.milter_fields.specs.declared.pair.Pair.{Pair}
use Rattle.milter_fields.specs.declared.path.Path.{Path}
use Rattle.milter_wire.specs.declared.symbol_lists.SymList.{SymList}
use Rattle.milter_wire.specs.declared.command.Command.{Command}
use Rattle.milter_wire.specs.declared.command.Command.TheVariants as commands
use Rattle.milter_wire.specs.declared.reply.Reply.{Reply}
use Rattle.milter_wire.specs.declared.reply.Reply.TheVariants as replies
use Rattle.milter_fields.specs.Code.{code_text}
use Rattle.milter_fields.specs.Number.{number}
use Rattle.milter_wire.specs.Frames.{frame_command, frame_reply}
use Rattle.milter_fields.specs.Stream.{Frame}
use Rattle.milter_text.specs.QuotedText.{quoted}
use Rattle.milter_trace.specs.declared.direction.Direction.{Direction}
use Rattle.milter_trace.specs.declared.direction.Direction.TheVariants.{ToFilter, ToMta}
use Rattle.milter_trace.specs.declared.form.TraceForm.{TraceForm}

-- `>` to the filter, `<` to the MTA
abbrev pub mark_of : Direction → ℕ
mark_of ToFilter = 62
mark_of ToMta = 60

-- eight hexadecimal digits, letters in lower case
abbrev pub hex8 : ℕ → List ℕ
hex8 n = encode_lower (number n)

-- lines with nothing beside what they always have
abbrev pub plain_form : TraceForm
plain_form = record { names = false; bodies = None }

-- ---- fields

-- the names of the bits of a set, where a form has names
abbrev pub names_fields : TraceForm → List ℕ → List (List ℕ)
names_fields form names = if form.names then (names ∷ []) else []

-- Each of the three numbers after its name: the version in decimal, the sets of bits in hexadecimal. The names of a
-- set's bits follow it.
abbrev pub options_fields : TraceForm → Options → List (List ℕ)
options_fields form o =
    codes "version" ∷ decimal o.version
    ∷ codes "actions" ∷ hex8 o.actions.0 ∷ (names_fields form (names_text actions_table o.actions.0)
    ++ (codes "protocol" ∷ hex8 o.protocol.0 ∷ names_fields form (names_text protocol_table o.protocol.0)))

-- of a symbol list, the stage in decimal and the names, after the word for it
abbrev pub sym_list_fields : SymList → List (List ℕ)
sym_list_fields list = codes "symbols" ∷ decimal list.stage ∷ quoted list.names ∷ []

-- the family, and then the port and the address where it is known
abbrev pub origin_fields : Origin → List (List ℕ)
origin_fields origins.Unknown = codes "U" ∷ []
origin_fields (origins.Unix port address) = codes "L" ∷ decimal port ∷ quoted address ∷ []
origin_fields (origins.Inet port address) = codes "4" ∷ decimal port ∷ quoted address ∷ []
origin_fields (origins.Inet6 port address) = codes "6" ∷ decimal port ∷ quoted address ∷ []

abbrev pub client_fields : Client → List (List ℕ)
client_fields c = quoted c.host ∷ origin_fields c.origin

abbrev pub pair_fields : Pair → List (List ℕ)
pair_fields p = quoted p.name ∷ quoted p.value ∷ []

abbrev pub header_fields : Header → List (List ℕ)
header_fields h = quoted h.name ∷ quoted h.value ∷ []

abbrev pub path_fields : Path → List (List ℕ)
path_fields p = quoted p.address ∷ map quoted p.params

abbrev pub arguments_fields : Option (List ℕ) → List (List ℕ)
arguments_fields None = []
arguments_fields (Some arguments) = quoted arguments ∷ []

-- of these bytes the first, up to this number of them, in quotes
abbrev pub first_fields : Option ℕ → List ℕ → List (List ℕ)
first_fields None bytes = []
first_fields (Some most) bytes = quoted (take most bytes) ∷ []

-- of the bytes of a body, how many there are, and the first where a form has bodies
abbrev pub body_fields : TraceForm → List ℕ → List (List ℕ)
body_fields form bytes = decimal (length bytes) ∷ first_fields form.bodies bytes

-- the fields of a command, in the order of its payload
abbrev pub command_fields : TraceForm → Command → List (List ℕ)
command_fields form commands.Abort = []
command_fields form (commands.Body bytes) = body_fields form bytes
command_fields form (commands.Connect client) = client_fields client
command_fields form (commands.Macro command pairs) = code_text command ∷ flat_map pair_fields pairs
command_fields form (commands.Eob bytes) = body_fields form bytes
command_fields form (commands.Helo name) = quoted name ∷ []
command_fields form commands.QuitNew = []
command_fields form (commands.Header header) = header_fields header
command_fields form (commands.Mail sender) = path_fields sender
command_fields form commands.Eoh = []
command_fields form (commands.Options options) = options_fields form options
command_fields form commands.Quit = []
command_fields form (commands.Rcpt recipient) = path_fields recipient
command_fields form commands.DataCmd = []
command_fields form (commands.Unknown text) = quoted text ∷ []

-- the fields of a reply, in the order of its payload
abbrev pub reply_fields : TraceForm → Reply → List (List ℕ)
reply_fields form (replies.AddRcpt address) = quoted address ∷ []
reply_fields form (replies.DelRcpt address) = quoted address ∷ []
reply_fields form (replies.AddRcptPar address arguments) = quoted address ∷ arguments_fields arguments
reply_fields form (replies.Options options lists) = options_fields form options ++ flat_map sym_list_fields lists
reply_fields form replies.Accept = []
reply_fields form (replies.ReplaceBody bytes) = body_fields form bytes
reply_fields form replies.Continue = []
reply_fields form replies.Discard = []
reply_fields form (replies.ChangeFrom address arguments) = quoted address ∷ arguments_fields arguments
reply_fields form (replies.AddHeader header) = header_fields header
reply_fields form (replies.InsertHeader index header) = decimal index ∷ header_fields header
reply_fields form (replies.ChangeHeader index header) = decimal index ∷ header_fields header
reply_fields form replies.Progress = []
reply_fields form (replies.Quarantine reason) = quoted reason ∷ []
reply_fields form replies.Reject = []
reply_fields form replies.Skip = []
reply_fields form replies.Tempfail = []
reply_fields form (replies.Code text) = quoted text ∷ []

-- ---- lines

-- fields as they are printed: each after a blank
abbrev pub fields_text : List (List ℕ) → List ℕ
fields_text fields = flat_map (λ field. 32 ∷ field) fields

-- the line of these fields: the direction, a blank, the code, the fields, LF
abbrev pub line_text : Direction → ℕ → List (List ℕ) → List ℕ
line_text direction code fields = mark_of direction ∷ 32 ∷ code_text code ++ fields_text fields ++ 10 ∷ []

-- the line of what a frame is decoded to, or its fault
abbrev pub decoded_text : {V : Type 0} → Direction → ℕ → (V → List (List ℕ)) → Result V WireFault
    → Result (List ℕ) WireFault
decoded_text direction code fields (Ok value) = Ok (line_text direction code (fields value))
decoded_text direction code fields (Err fault) = Err fault

-- the line of a packet in a form, or its fault
abbrev pub packet_text_in : TraceForm → Direction → Frame → Result (List ℕ) WireFault
packet_text_in form ToFilter f = decoded_text ToFilter f.code (command_fields form) (frame_command f)
packet_text_in form ToMta f = decoded_text ToMta f.code (reply_fields form) (frame_reply f)

-- the same with nothing beside what lines always have
abbrev pub packet_text : Direction → Frame → Result (List ℕ) WireFault
packet_text direction f = packet_text_in plain_form direction f

-- The text was appended, or the result is its fault and nothing was appended, unless memory was refused.
abbrev pub AppendsText : Result (List ℕ) WireFault → List ℕ → List ℕ → Result Unit WireFault → Type 0
AppendsText text old new (Ok u) = (t : List ℕ) × (text ≡ Ok t) × (new ≡ old ++ t)
AppendsText text old new (Err ZeroLength) = ⊥
AppendsText text old new (Err (TooLong n)) = ⊥
AppendsText text old new (Err (UnknownCode code)) = (text ≡ Err (UnknownCode code)) × (new ≡ old)
AppendsText text old new (Err (Malformed code)) = (text ≡ Err (Malformed code)) × (new ≡ old)
AppendsText text old new (Err (Truncated n)) = ⊥
AppendsText text old new (Err NoMemory) = Unit {0}
