use Rattle.std.proofs.Common.{refl}
use Rattle.milter_mail.specs.HeldText.{held_text, message_lines, reason_line}
use Rattle.milter_text.proofs.TextWriters.{Progress-fail, Progress-last, Progress-next, Progress-none}
use Rattle.milter_mail.proofs.held_text.put_held.Goals as goal

pub returns-in_err-put_reason : goal.returns-in_err-put_reason
unfolding held_text
returns-in_err-put_reason g c =
    Progress-fail _ _ _ (reason_line c.args.held.now.quarantine) (message_lines c.args.held.now.message) Progress-none c.in_err-put_reason.ensures c.from_residual.ensures.0 refl

pub returns : goal.returns
unfolding held_text
returns g c =
    let step1 = Progress-next (reason_line c.args.held.now.quarantine) (message_lines c.args.held.now.message) Progress-none c.in_ok-put_reason.ensures refl in
    Progress-last _ _ (message_lines c.args.held.now.message) step1 c.put_message.ensures refl
