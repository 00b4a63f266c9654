-- The weight of a message as a sum: what it weighs of itself, and what each message of the session weighs beside that.
use Rattle.std.specs.Prelude.{◌≡◌, ◌≢◌, ◌≤◌, ℕ, ◌+◌, ◌-◌, ◌*◌, ◌^◌, All, min, List, [], length, Option, None, Some}
use Rattle.std.specs.List.{sum_by}
use Rattle.milter_fields.specs.declared.number.TheConstants.{HEAD_LEN}
use Rattle.milter_message.specs.declared.message.TheConstants.{WEIGHT_MAX}
use Rattle.milter_wire.specs.declared.codes.TheConstants.{SMFIC_BODYEOB, SMFIC_CONNECT, SMFIC_DATA, SMFIC_EOH, SMFIC_HELO, SMFIC_MAIL, SMFIC_RCPT}
use Rattle.milter_fields.specs.declared.client.Client.{Client}
use Rattle.milter_wire.specs.declared.command.Command.TheVariants as commands
use Rattle.milter_fields.specs.declared.header.Header.{Header}
use Rattle.milter_fields.specs.declared.pair.Pair.{Pair}
use Rattle.milter_wire.specs.Command.{Fits, bytes_of, encoding}
use Rattle.milter_mail.specs.Macros.{Macros}
use Rattle.milter_mail.specs.declared.weight.Overhead.{Overhead}
use Rattle.milter_message.specs.LeadingSpace.{WholeFieldFits}
use Rattle.milter_message.specs.MailObject.{IsMessage, MailObject}
use Rattle.milter_mail.specs.MailSession.{MacrosFit}
use Rattle.milter_message.specs.Chunks.{chunk_count}
use Rattle.milter_mail.specs.Steps.{macro_step}

-- the bytes of the packet with these macros, where there are some
abbrev pub macros_weight : ℕ → List Pair → ℕ
macros_weight command pairs = bytes_of (macro_step (Some command) pairs)

-- the number of these bytes, where the macros fit a packet
abbrev pub MacrosWeigh : ℕ → List Pair → Option ℕ → Type 0
MacrosWeigh command pairs None = ¬ Fits (commands.Macro command pairs)
MacrosWeigh command pairs (Some n) = Fits (commands.Macro command pairs) × (n ≡ macros_weight command pairs)

-- the bytes of the opening
abbrev pub opening_weight : Client → List ℕ → Macros → ℕ
opening_weight client helo macros =
    macros_weight SMFIC_CONNECT macros.connect + length (encoding (commands.Connect client))
    + (macros_weight SMFIC_HELO macros.helo + length (encoding (commands.Helo helo)))

pub record OpeningFits (client : Client) (helo : List ℕ) (macros : Macros) : Type 0 where
  pub client_fits : Fits (commands.Connect client)
  pub helo_fits : Fits (commands.Helo helo)
  pub macros_before_client : Fits (commands.Macro SMFIC_CONNECT macros.connect)
  pub macros_before_helo : Fits (commands.Macro SMFIC_HELO macros.helo)

abbrev pub OpeningWeighs : Client → List ℕ → Macros → Option ℕ → Type 0
OpeningWeighs client helo macros None = ¬ OpeningFits client helo macros
OpeningWeighs client helo macros (Some n) =
    OpeningFits client helo macros × (n ≡ min (opening_weight client helo macros) (2 ^ 64 - 1))

-- the bytes that are the same for each message: its macros but for those of recipients, and the three packets of five
-- bytes each for DATA and the ends of the header and of the message
abbrev pub common_weight : Macros → ℕ
common_weight macros =
    macros_weight SMFIC_MAIL macros.mail
    + (macros_weight SMFIC_DATA macros.data_cmd + HEAD_LEN)
    + (macros_weight SMFIC_EOH macros.eoh + HEAD_LEN)
    + (macros_weight SMFIC_BODYEOB macros.eom + HEAD_LEN)

pub record CommonFits (macros : Macros) : Type 0 where
  pub mail : Fits (commands.Macro SMFIC_MAIL macros.mail)
  pub data_cmd : Fits (commands.Macro SMFIC_DATA macros.data_cmd)
  pub eoh : Fits (commands.Macro SMFIC_EOH macros.eoh)
  pub eom : Fits (commands.Macro SMFIC_BODYEOB macros.eom)

abbrev pub CommonWeighs : Macros → Option ℕ → Type 0
CommonWeighs macros None = ¬ CommonFits macros
CommonWeighs macros (Some n) = CommonFits macros × (n ≡ min (common_weight macros) (2 ^ 64 - 1))

-- the bytes of a body, and of the five before each of its chunks
abbrev pub body_weight : ℕ → ℕ
body_weight len = len + HEAD_LEN * chunk_count len

-- the bytes of the packets of header fields with their whole values
abbrev pub fields_weight : List Header → ℕ
fields_weight headers = sum_by (λ header. length (encoding (commands.Header header))) headers

-- the number of these bytes, where each field fits a packet with its whole value
abbrev pub FieldsWeigh : List Header → Option ℕ → Type 0
FieldsWeigh headers None = ¬ All WholeFieldFits headers
FieldsWeigh headers (Some n) = All WholeFieldFits headers × (n ≡ min (fields_weight headers) (2 ^ 64 - 1))

-- the bytes of the packets of the parts of a message, with so many more for each recipient
abbrev pub parts_weight : ℕ → MailObject → ℕ
parts_weight more message =
    length (encoding (commands.Mail message.sender))
    + sum_by (λ path. more + length (encoding (commands.Rcpt path))) message.recipients
    + fields_weight message.headers
    + body_weight (length message.body)

-- the number of these bytes, where each header field fits a packet with its whole value
abbrev pub PartsWeigh : ℕ → MailObject → Option ℕ → Type 0
PartsWeigh more message None = ¬ All WholeFieldFits message.headers
PartsWeigh more message (Some n) =
    All WholeFieldFits message.headers × (n ≡ min (parts_weight more message) (2 ^ 64 - 1))

-- the client, its greeting and the macros of each stage fit a packet
abbrev pub OpeningAndMacrosFit : Client → List ℕ → Macros → Type 0
OpeningAndMacrosFit client helo macros =
    Fits (commands.Connect client) × Fits (commands.Helo helo) × MacrosFit macros

-- what each message of a session weighs beside the packets of its own parts
pub record IsOverhead (client : Client) (helo : List ℕ) (macros : Macros) (o : Overhead) : Type 0 where
  pub message_is : o.message ≡ min (opening_weight client helo macros + common_weight macros) (2 ^ 64 - 1)
  pub recipient_is : o.recipient ≡ macros_weight SMFIC_RCPT macros.rcpt

-- a message that may be sent in a session with this overhead
pub record IsSendableWith (o : Overhead) (m : MailObject) : Type 0 where
  pub whole : IsMessage m
  pub has_recipient : m.recipients ≢ []
  pub whole_fields : All WholeFieldFits m.headers
  pub weight : o.message + parts_weight o.recipient m ≤ WEIGHT_MAX
