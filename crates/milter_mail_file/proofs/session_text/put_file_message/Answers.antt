use Rattle.std.proofs.Common.{codes, refl}
use Rattle.milter_mail.specs.HeldText.{message_lines}
use Rattle.milter_text.proofs.TextWriters.{Progress-fail, Progress-last, Progress-next, Progress-none}
use Rattle.milter_mail_file.proofs.session_text.put_file_message.Goals as goal

pub returns-in_err-put : goal.returns-in_err-put
returns-in_err-put g c =
    Progress-fail _ _ _ (codes "message\n") (message_lines c.args.message.now) Progress-none c.in_err-put.ensures c.from_residual.ensures.0 refl

pub returns : goal.returns
returns g c =
    let step1 = Progress-next (codes "message\n") (message_lines c.args.message.now) Progress-none c.in_ok-put.ensures refl in
    Progress-last _ _ (message_lines c.args.message.now) step1 c.put_message.ensures refl
