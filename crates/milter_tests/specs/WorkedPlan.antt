-- A message with each part, macros of each stage, and the commands that are sent of them.
use Rattle.std.specs.Prelude.{ℕ, List, [], ◌∷◌, codes}
use Rattle.milter_wire.specs.declared.command.Command.{Command}
use Rattle.milter_wire.specs.declared.command.Command.TheVariants as commands
use Rattle.milter_fields.specs.declared.pair.Pair.{Pair}
use Rattle.milter_mail.specs.Macros.{Macros}
use Rattle.milter_message.specs.MailObject.{MailObject}
use Rattle.milter_tests.specs.WorkedMessage.{at, field}

-- a macro with the value 1
abbrev pub one : List ℕ → List Pair
one name = record { name = name; value = codes "1" } ∷ []

-- one macro for each stage
abbrev pub all_macros : Macros
all_macros =
    record {
      connect = one (codes "c");
      helo = one (codes "h");
      mail = one
          (codes "m");
      rcpt = one (codes "r");
      data_cmd = one (codes "t");
      eom = one (codes "e");
      eoh = one (codes "n");
    }

abbrev pub full_message : MailObject
full_message =
    record {
      sender = at (codes "a@x");
      recipients = at (codes "b@y") ∷ at (codes "c@z")
          ∷ [];
      headers = field (codes "A") (codes "1") ∷ field (codes "B") (codes "2") ∷ [];
      body = codes "hi";
    }

-- a message with one of each part
abbrev pub short_message : MailObject
short_message =
    record {
      sender = at (codes "a@x");
      recipients = at (codes "b@y") ∷ [];
      headers = field (codes "A") (codes "1")
          ∷ [];
      body = codes "hi";
    }

abbrev pub mail : Command
mail = commands.Mail (at (codes "a@x"))

abbrev pub rcpt : Command
rcpt = commands.Rcpt (at (codes "b@y"))

abbrev pub header : Command
header = commands.Header (field (codes "A") (codes "1"))

abbrev pub body : Command
body = commands.Body (codes "hi")

abbrev pub eob : Command
eob = commands.Eob []
