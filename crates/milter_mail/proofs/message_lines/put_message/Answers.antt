use Rattle.std.proofs.Common.{refl}
use Rattle.milter_mail.specs.HeldText.{content_lines, envelope_lines}
use Rattle.milter_text.proofs.TextWriters.{Progress-fail, Progress-last, Progress-next, Progress-none}
use Rattle.milter_mail.proofs.message_lines.put_message.Goals as goal

pub returns-in_err-put_envelope : goal.returns-in_err-put_envelope
returns-in_err-put_envelope g c =
    Progress-fail _ _ _ (envelope_lines c.args.message.now) (content_lines c.args.message.now) Progress-none c.in_err-put_envelope.ensures c.from_residual.ensures.0 refl

pub returns : goal.returns
returns g c =
    let step1 = Progress-next (envelope_lines c.args.message.now) (content_lines c.args.message.now) Progress-none c.in_ok-put_envelope.ensures refl in
    Progress-last _ _ (content_lines c.args.message.now) step1 c.put_content.ensures refl
