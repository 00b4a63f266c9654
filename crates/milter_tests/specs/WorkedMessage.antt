-- One small session, and the values that it is made of.
use Rattle.std.specs.Prelude.{ℕ, List, [], ◌∷◌, ◌++◌, codes}
use Rattle.milter_fields.specs.declared.client.Client.{Client}
use Rattle.milter_fields.specs.declared.client.Origin.TheVariants.{Unknown}
use Rattle.milter_fields.specs.declared.header.Header.{Header}
use Rattle.milter_wire.specs.declared.options.Options.{Options}
use Rattle.milter_wire.specs.declared.negotiation.Negotiated.{Negotiated}
use Rattle.milter_fields.specs.declared.pair.Pair.{Pair}
use Rattle.milter_fields.specs.declared.path.Path.{Path}
use Rattle.milter_mail.specs.Macros.{Macros}
use Rattle.milter_message.specs.MailObject.{MailObject}

-- a sender or a recipient without parameters
abbrev pub at : List ℕ → Path
at address = record { address = address; params = [] }

abbrev pub field : List ℕ → List ℕ → Header
field name value = record { name = name; value = value }

abbrev pub client : Client
client = record { host = codes "h.example"; origin = Unknown }

abbrev pub helo : List ℕ
helo = codes "mail"

abbrev pub message : MailObject
message = record { sender = at (codes "a@x"); recipients = at (codes "b@y") ∷ []; headers = []; body = [] }

abbrev pub macros_with : List Pair → Macros
macros_with pairs = record { connect = pairs; helo = []; mail = []; rcpt = []; data_cmd = []; eom = []; eoh = [] }

abbrev pub no_macros : Macros
no_macros = macros_with []

-- the macro `j` at connect
abbrev pub one_macro : Macros
one_macro = macros_with (record { name = codes "j"; value = codes "mx" } ∷ [])

-- a version, and a set of protocol bits
abbrev pub options : ℕ → ℕ → Options
options version protocol = record { version = version; actions = record { 0 = 0 }; protocol = record { 0 = protocol } }

-- the same, negotiated without symbol lists
abbrev pub negotiated : ℕ → ℕ → Negotiated
negotiated version protocol = record { options = options version protocol; lists = [] }

-- a keyword, a blank, a text between quotes that holds nothing but itself, and LF
abbrev pub line : List ℕ → List ℕ → List ℕ
line keyword text = keyword ++ 32 ∷ 34 ∷ text ++ 34 ∷ 10 ∷ []
