use Rattle.std.proofs.Common.{All, subst}
use Rattle.milter_wire.specs.declared.command.Command.TheVariants as commands
use Rattle.milter_wire.specs.Command.{Fits}
use Rattle.milter_message.specs.LeadingSpace.{FieldFits}
use Rattle.milter_message.specs.MailObject.{IsMessage}
use Rattle.milter_message.proofs.EditsFit.{edited_is_message}
use Rattle.milter_message.proofs.application.message_after.Goals as goal

pub from_parts-requires : goal.from_parts-requires
from_parts-requires c =
    let whole : IsMessage c.args.message.now = record {
      sender = subst (λ path. Fits (commands.Mail path)) c.sender.ensures.sender c.sender.ensures.fits;
      recipients = subst (All (λ path. Fits (commands.Rcpt path))) c.recipients.ensures.recipients c.recipients.ensures.fit;
      headers = subst (All FieldFits) c.headers.ensures.headers c.headers.ensures.fit;
    } in
    rw (c.in_ok-sender.ensures, c.sender.ensures.sender, c.in_ok-recipients.ensures, c.recipients.ensures.recipients, c.in_ok-headers.ensures, c.headers.ensures.headers, c.in_ok-body.ensures, c.body.ensures)
    (edited_is_message c.args.leading_space c.args.message.now c.args.edits.now whole c.requires)
