-- A session with macros of each stage, symbol lists of three stages, and a message of any body: what is sent of it.
use Rattle.std.specs.Prelude.{ℕ, List, [], ◌∷◌, ◌++◌, codes, drop, take}
use Rattle.milter_wire.specs.declared.negotiation.Negotiated.{Negotiated}
use Rattle.milter_wire.specs.declared.command.Command.{Command}
use Rattle.milter_wire.specs.declared.command.Command.TheVariants as commands
use Rattle.milter_fields.specs.declared.pair.Pair.{Pair}
use Rattle.milter_wire.specs.declared.symbol_lists.SymList.{SymList}
use Rattle.milter_mail.specs.Macros.{Macros}
use Rattle.milter_message.specs.MailObject.{MailObject}
use Rattle.milter_mail.specs.MailSession.{MailSession}
use Rattle.milter_tests.specs.WorkedMacros.{list, two_pairs}
use Rattle.milter_tests.specs.WorkedMessage.{at, client, field, helo, options}
use Rattle.milter_tests.specs.WorkedPlan.{header, mail, one, rcpt}

-- k and j at connect, and one macro at each other stage
abbrev pub macros : Macros
macros =
    record {
      connect = two_pairs;
      helo = one (codes "h");
      mail = one (codes "m");
      rcpt = one (codes "r");
      data_cmd = one (codes "t");
      eom = one (codes "e");
      eoh = one (codes "n");
    }

-- at connect j and then k, of recipients a name that the session doesn't have, and at the end of a header none
abbrev pub lists : List SymList
lists = list 0 (codes "j k") ∷ list 3 (codes "z") ∷ list 6 [] ∷ []

-- negotiated with these lists and protocol bits
abbrev pub negotiated_with_lists : ℕ → Negotiated
negotiated_with_lists protocol = record { options = options 6 protocol; lists = lists }

-- two recipients, and two header fields of which one begins with a blank
abbrev pub message_of : List ℕ → MailObject
message_of body =
    record {
      sender = at (codes "a@x");
      recipients = at (codes "b@y") ∷ at (codes "c@z") ∷ [];
      headers = field (codes "A") (codes "1") ∷ field (codes "B") (codes " 2") ∷ [];
      body = body;
    }

abbrev pub session_of : List ℕ → MailSession
session_of body = record { client = client; helo = helo; macros = macros; messages = message_of body ∷ [] }

-- the macros at connect in the order of their list
abbrev pub listed_pairs : List Pair
listed_pairs = record { name = codes "j"; value = codes "mx" } ∷ record { name = codes "k"; value = codes "v" } ∷ []

abbrev pub opening_commands : List Command
opening_commands =
    commands.Macro 67 listed_pairs
    ∷ commands.Connect client
    ∷ commands.Macro 72 (one (codes "h"))
    ∷ commands.Helo helo
    ∷ []

-- of the message, before its body and after it
abbrev pub commands_before : List Command
commands_before =
    opening_commands
    ++ commands.Macro 77 (one (codes "m"))
    ∷ mail
    ∷ rcpt
    ∷ commands.Rcpt (at (codes "c@z"))
    ∷ commands.Macro 84 (one (codes "t"))
    ∷ commands.DataCmd
    ∷ header
    ∷ commands.Header (field (codes "B") (codes "2"))
    ∷ commands.Eoh
    ∷ []

abbrev pub commands_after : List Command
commands_after = commands.Macro 69 (one (codes "e")) ∷ commands.Eob [] ∷ []

-- the whole plan where the body has 65,536 bytes: the last of them is a chunk of its own
abbrev pub planned_commands : List ℕ → List Command
planned_commands body =
    commands_before
    ++ commands.Body (take 65535 body)
    ∷ commands.Body (take 65535 (drop 65535 body))
    ∷ commands_after
