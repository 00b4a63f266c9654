-- A message as SMTP carries it: the envelope, the header and the body.
use Rattle.std.specs.Prelude.{ℕ, List, All}
use Rattle.milter_wire.specs.declared.command.Command.TheVariants as commands
use Rattle.milter_fields.specs.declared.header.Header.{Header}
use Rattle.milter_fields.specs.declared.path.Path.{Path}
use Rattle.milter_wire.specs.Command.{Fits}
use Rattle.milter_message.specs.LeadingSpace.{FieldFits}

pub record MailObject : Type 0 where
  pub sender : Path
  pub recipients : List Path
  pub headers : List Header
  pub body : List ℕ

-- the command of each part fits, that of a header field without the blank that its value begins with; the body may be
-- any bytes
pub record IsMessage (m : MailObject) : Type 0 where
  pub sender : Fits (commands.Mail m.sender)
  pub recipients : All (λ recipient. Fits (commands.Rcpt recipient)) m.recipients
  pub headers : All FieldFits m.headers
