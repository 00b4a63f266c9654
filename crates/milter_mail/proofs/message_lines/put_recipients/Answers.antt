use Rattle.std.proofs.Common.{codes}
use Rattle.milter_mail.specs.HeldText.{path_line}
use Rattle.milter_text.proofs.TextWriters.{Progress-fail, Progress-next, Progress-none, flat_map-next}
use Rattle.milter_mail.proofs.message_lines.put_recipients.Goals as goal

pub loop-recipient-init : goal.loop-recipient-init
loop-recipient-init g c = Progress-none

pub returns-in_err-put_path : goal.returns-in_err-put_path
returns-in_err-put_path g c =
    let next = flat_map-next (path_line (codes "recipient")) c.args.recipients.now c.loop-recipient.recipient-index c.recipient-item.result c.loop-recipient-test.true c.recipient-item.is in
    Progress-fail _ _ _ (path_line (codes "recipient") c.recipient-item.result) _ c.loop-recipient.invariant c.in_err-put_path.ensures c.from_residual.ensures.0 next

pub loop-recipient-preserved : goal.loop-recipient-preserved
loop-recipient-preserved g c =
    let next = flat_map-next (path_line (codes "recipient")) c.args.recipients.now c.loop-recipient.recipient-index c.recipient-item.result c.loop-recipient-test.true c.recipient-item.is in
    Progress-next (path_line (codes "recipient") c.recipient-item.result) _ c.loop-recipient.invariant c.in_ok-put_path.ensures next
