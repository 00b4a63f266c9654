-- The encoding of each command, by one case for each row of the table of commands, and its decoding.
use Rattle.std.specs.Prelude.{◌≡◌, ℕ, Bool, List, [], ◌∷◌, length, All, Option, None, Some}
use Rattle.std.specs.List.{flat_map, sum_by}
use Rattle.std.specs.Option.{option_map}
use Rattle.milter_wire.specs.declared.codes.TheConstants.{SMFIC_ABORT, SMFIC_BODY, SMFIC_BODYEOB, SMFIC_CONNECT, SMFIC_DATA, SMFIC_EOH, SMFIC_HEADER, SMFIC_HELO, SMFIC_MACRO, SMFIC_MAIL, SMFIC_OPTNEG, SMFIC_QUIT, SMFIC_QUIT_NC, SMFIC_RCPT, SMFIC_UNKNOWN}
use Rattle.milter_wire.specs.declared.command.Command.{Command}
use Rattle.milter_wire.specs.declared.command.Command.TheVariants.{Options, Macro, Connect, Helo, Mail, Rcpt, DataCmd, Header, Eoh, Body, Eob, Unknown, Abort, Quit, QuitNew}
use Rattle.milter_fields.specs.Field.{string, HasNoNul}
use Rattle.milter_wire.specs.OptionsPayload.{options, OptionsFit, options_in}
use Rattle.milter_fields.specs.Layout.{pair, PairFits, client, ClientFits, path, PathFits, header, HeaderFits}
use Rattle.milter_fields.specs.Packet.{packet, IsPayload}
use Rattle.milter_wire.specs.Tables.{Row, has_row, read_by}
use Rattle.milter_fields.specs.Decoders.{ended, macro_in, client_in, string_in, path_in, header_in}

-- ---- the table

-- the code, in ASCII
abbrev pub code_of : Command → ℕ
code_of Abort = SMFIC_ABORT
code_of (Body bytes) = SMFIC_BODY
code_of (Connect c) = SMFIC_CONNECT
code_of (Macro command pairs) = SMFIC_MACRO
code_of (Eob bytes) = SMFIC_BODYEOB
code_of (Helo name) = SMFIC_HELO
code_of QuitNew = SMFIC_QUIT_NC
code_of (Header h) = SMFIC_HEADER
code_of (Mail sender) = SMFIC_MAIL
code_of Eoh = SMFIC_EOH
code_of (Options o) = SMFIC_OPTNEG
code_of Quit = SMFIC_QUIT
code_of (Rcpt recipient) = SMFIC_RCPT
code_of DataCmd = SMFIC_DATA
code_of (Unknown text) = SMFIC_UNKNOWN

-- the payload
abbrev pub payload_of : Command → List ℕ
payload_of Abort = []
payload_of (Body bytes) = bytes
payload_of (Connect c) = client c
payload_of (Macro command pairs) = command ∷ flat_map pair pairs
payload_of (Eob bytes) = bytes
payload_of (Helo name) = string name
payload_of QuitNew = []
payload_of (Header h) = header h
payload_of (Mail sender) = path sender
payload_of Eoh = []
payload_of (Options o) = options o
payload_of Quit = []
payload_of (Rcpt recipient) = path recipient
payload_of DataCmd = []
payload_of (Unknown text) = string text

-- what the table asks of the fields
abbrev pub FieldsFit : Command → Type 0
FieldsFit Abort = Unit {0}
FieldsFit (Body bytes) = Unit {0}
FieldsFit (Connect c) = ClientFits c
FieldsFit (Macro command pairs) = All PairFits pairs
FieldsFit (Eob bytes) = Unit {0}
FieldsFit (Helo name) = HasNoNul name
FieldsFit QuitNew = Unit {0}
FieldsFit (Header h) = HeaderFits h
FieldsFit (Mail sender) = PathFits sender
FieldsFit Eoh = Unit {0}
FieldsFit (Options o) = OptionsFit o
FieldsFit Quit = Unit {0}
FieldsFit (Rcpt recipient) = PathFits recipient
FieldsFit DataCmd = Unit {0}
FieldsFit (Unknown text) = HasNoNul text

-- ---- encoding

-- a command that a packet has room for, whose fields are as the table asks
pub record Fits (c : Command) : Type 0 where
  pub fields : FieldsFit c
  pub payload : IsPayload (payload_of c)

-- some command that a packet has room for has this code
abbrev pub IsCodeOfSome : ℕ → Type 0
IsCodeOfSome code = (c : Command) × Fits c × (code_of c ≡ code)

-- the packet of a command
abbrev pub encoding : Command → List ℕ
encoding c = packet (code_of c) (payload_of c)

-- the number of bytes of the packets of commands
abbrev pub bytes_of : List Command → ℕ
bytes_of commands = sum_by (λ command. length (encoding command)) commands

-- the command is encoded as these bytes
pub record IsEncodedAs (c : Command) (bytes : List ℕ) : Type 0 where
  pub fits : Fits c
  pub bytes_are : bytes ≡ encoding c

-- a number, where a packet can be of the command: that of its bytes
abbrev pub PacketLen : Command → Option ℕ → Type 0
PacketLen c None = ¬ Fits c
PacketLen c (Some n) = Fits c × (n ≡ length (encoding c))

-- ---- decoding

-- how the payload of each code is decoded
abbrev pub rows : List (Row Command)
rows =
    (SMFIC_ABORT, ended Abort)
    ∷ (SMFIC_BODY, λ payload. Some (Body payload))
    ∷ (SMFIC_CONNECT, λ payload. option_map Connect (client_in payload))
    ∷ (SMFIC_MACRO, λ payload. option_map (λ m. Macro m.0 m.1) (macro_in payload))
    ∷ (SMFIC_BODYEOB, λ payload. Some (Eob payload))
    ∷ (SMFIC_HELO, λ payload. option_map Helo (string_in payload))
    ∷ (SMFIC_QUIT_NC, ended QuitNew)
    ∷ (SMFIC_HEADER, λ payload. option_map Header (header_in payload))
    ∷ (SMFIC_MAIL, λ payload. option_map Mail (path_in payload))
    ∷ (SMFIC_EOH, ended Eoh)
    ∷ (SMFIC_OPTNEG, λ payload. option_map Options (options_in payload))
    ∷ (SMFIC_QUIT, ended Quit)
    ∷ (SMFIC_RCPT, λ payload. option_map Rcpt (path_in payload))
    ∷ (SMFIC_DATA, ended DataCmd)
    ∷ (SMFIC_UNKNOWN, λ payload. option_map Unknown (string_in payload))
    ∷ []

-- whether the table has this code
unfoldable pub is_code : ℕ → Bool
is_code code = has_row rows code

-- the command that a code and a payload encode, if there is one
unfoldable pub command_in : ℕ → List ℕ → Option Command
command_in code payload = read_by rows code payload
