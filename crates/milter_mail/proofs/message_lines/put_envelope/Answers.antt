use Rattle.std.proofs.Common.{refl, codes}
use Rattle.std.specs.List.{flat_map}
use Rattle.milter_mail.specs.HeldText.{path_line}
use Rattle.milter_text.proofs.TextWriters.{Progress-fail, Progress-last, Progress-next, Progress-none}
use Rattle.milter_mail.proofs.message_lines.put_envelope.Goals as goal

pub returns-in_err-put_path : goal.returns-in_err-put_path
returns-in_err-put_path g c =
    Progress-fail _ _ _ (path_line (codes "sender") c.args.message.now.sender) (flat_map (path_line (codes "recipient")) c.args.message.now.recipients) Progress-none (rw c.sender.ensures.sender at c.in_err-put_path.ensures) c.from_residual.ensures.0 refl

pub returns : goal.returns
returns g c =
    let step1 = Progress-next (path_line (codes "sender") c.args.message.now.sender) (flat_map (path_line (codes "recipient")) c.args.message.now.recipients) Progress-none (rw c.sender.ensures.sender at c.in_ok-put_path.ensures) refl in
    Progress-last _ _ (flat_map (path_line (codes "recipient")) c.args.message.now.recipients) step1 (rw c.recipients.ensures.recipients at c.put_recipients.ensures) refl
