use Rattle.milter_wire.specs.declared.command.Command.TheVariants as commands
use Rattle.milter_wire.specs.Command.{Fits}
use Rattle.milter_message.specs.MailObject.{IsMessage}
use Rattle.milter_mta_outcome.specs.ActedVerdicts.{rcpt_verdicts, kept}
use Rattle.milter_mta_outcome.proofs.KeptRecipients.{all_kept}
use Rattle.milter_mta_outcome.proofs.disposition.kept_message.Goals as goal

pub from_parts-requires : goal.from_parts-requires
from_parts-requires c =
    let parts = c.into_parts-parts.ensures in
    let whole : IsMessage (kept c.args.message c.args.acted.now) = record {
      sender = parts.whole.sender;
      recipients = all_kept (λ path. Fits (commands.Rcpt path)) c.args.message.recipients (rcpt_verdicts c.args.acted.now) parts.whole.recipients;
      headers = parts.whole.headers;
    } in
    rw (parts.sender, c.remove_refused.ensures, parts.recipients, parts.headers, parts.body) whole
