use Rattle.milter_message.proofs.KeptRecipients.{all_kept}
use Rattle.milter_message.proofs.recipient_edits.recipients_after.Goals as goal

pub returns : goal.returns
returns c =
    all_kept c.in_ok-deletions.deletions c.args.recipients.now c.args.edits.now c.in_ok-changed.changed.items
    c.add_recipients.new.recipients.items c.in_ok-deletions.ensures c.in_ok-changed.ensures c.in_ok-add_recipients.ensures
