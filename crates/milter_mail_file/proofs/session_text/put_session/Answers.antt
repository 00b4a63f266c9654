use Rattle.std.proofs.Common.{refl}
use Rattle.std.specs.List.{flat_map}
use Rattle.milter_mail_file.specs.SessionText.{message_text, opening_text, session_text}
use Rattle.milter_text.proofs.TextWriters.{Progress-fail, Progress-last, Progress-next, Progress-none}
use Rattle.milter_mail_file.proofs.session_text.put_session.Goals as goal

pub returns-in_err-put_opening : goal.returns-in_err-put_opening
unfolding session_text
returns-in_err-put_opening g c =
    Progress-fail _ _ _ (opening_text c.args.session.now) (flat_map message_text c.args.session.now.messages) Progress-none c.in_err-put_opening.ensures c.from_residual.ensures.0 refl

pub returns : goal.returns
unfolding session_text
returns g c =
    let step1 = Progress-next (opening_text c.args.session.now) (flat_map message_text c.args.session.now.messages) Progress-none c.in_ok-put_opening.ensures refl in
    Progress-last _ _ (flat_map message_text c.args.session.now.messages) step1 (rw c.messages.ensures.messages at c.put_messages.ensures) refl
