-- What a filter is shown, by the commands that came, the latest first.
use Rattle.std.specs.Prelude.{ℕ, Bool, List, [], ◌∷◌, ◌++◌, reverse, Option, None, Some, option_map}
use Rattle.std.specs.List.{concat, filter_map, find, flat_map}
use Rattle.std.specs.Str.{bytes_eq}
use Rattle.milter_fields.specs.declared.client.Client.{Client}
use Rattle.milter_wire.specs.declared.command.Command.{Command}
use Rattle.milter_wire.specs.declared.command.Command.TheVariants as commands
use Rattle.milter_fields.specs.declared.header.Header.{Header}
use Rattle.milter_fields.specs.declared.pair.Pair.{Pair}
use Rattle.milter_fields.specs.declared.path.Path.{Path}
use Rattle.milter_protocol.specs.Exchanges.{latest}

-- Values of header fields are as they were sent, with leading spaces or without. Of the macros the last ones come
-- first, so that the first of a name has its value.
pub record Seen : Type 0 where
  pub leading_space : Bool
  pub client : Option Client
  pub helo : Option (List ℕ)
  pub sender : Option Path
  pub recipients : List Path
  pub headers : List Header
  pub body : List ℕ
  pub macros : List Pair

-- ---- what each command has

abbrev pub client_in : Command → Option Client
client_in (commands.Connect client) = Some client
client_in other = None

abbrev pub helo_in : Command → Option (List ℕ)
helo_in (commands.Helo name) = Some name
helo_in other = None

abbrev pub sender_in : Command → Option Path
sender_in (commands.Mail sender) = Some sender
sender_in other = None

abbrev pub recipient_in : Command → Option Path
recipient_in (commands.Rcpt recipient) = Some recipient
recipient_in other = None

abbrev pub header_in : Command → Option Header
header_in (commands.Header header) = Some header
header_in other = None

-- a chunk of the body; the end of a message may have the last one
abbrev pub chunk_in : Command → Option (List ℕ)
chunk_in (commands.Body bytes) = Some bytes
chunk_in (commands.Eob bytes) = Some bytes
chunk_in other = None

-- the macros, the last one first
abbrev pub pairs_in : Command → List Pair
pairs_in (commands.Macro command pairs) = reverse pairs
pairs_in other = []

-- ---- what all of them have

-- the value of the first of these macros that has the name
abbrev pub value_in : List Pair → List ℕ → Option (List ℕ)
value_in pairs name = option_map (λ pair. pair.value) (find (λ pair. bytes_eq pair.name name) pairs)

abbrev pub seen : Bool → List Command → Seen
seen leading_space shown =
    record {
      leading_space = leading_space;
      client = latest (filter_map client_in shown);
      helo = latest (filter_map helo_in shown);
      sender = latest (filter_map sender_in shown);
      recipients = reverse (filter_map recipient_in shown);
      headers = reverse (filter_map header_in shown);
      body = concat (reverse (filter_map chunk_in shown));
      macros = flat_map pairs_in shown;
    }

-- ---- with one command more

abbrev pub seen_with : Seen → Command → Seen
seen_with s (commands.Connect client) = record s { client = Some client }
seen_with s (commands.Helo name) = record s { helo = Some name }
seen_with s (commands.Mail sender) = record s { sender = Some sender }
seen_with s (commands.Rcpt recipient) = record s { recipients = s.recipients ++ recipient ∷ [] }
seen_with s (commands.Header header) = record s { headers = s.headers ++ header ∷ [] }
seen_with s (commands.Body bytes) = record s { body = s.body ++ bytes }
seen_with s (commands.Eob bytes) = record s { body = s.body ++ bytes }
seen_with s (commands.Macro command pairs) = record s { macros = reverse pairs ++ s.macros }
seen_with s other = s
