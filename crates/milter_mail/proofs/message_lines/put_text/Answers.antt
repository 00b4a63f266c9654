use Rattle.std.proofs.Common.{refl, [], ◌∷◌}
use Rattle.milter_text.specs.QuotedText.{quoted}
use Rattle.milter_text.proofs.TextWriters.{Progress-fail, Progress-last, Progress-next, Progress-none}
use Rattle.milter_mail.proofs.message_lines.put_text.Goals as goal

pub returns-in_err-put : goal.returns-in_err-put
returns-in_err-put g c =
    Progress-fail _ _ _ (32 ∷ []) (quoted c.args.text.now) Progress-none c.in_err-put.ensures c.from_residual.ensures.0 refl

pub returns : goal.returns
returns g c =
    let step1 = Progress-next (32 ∷ []) (quoted c.args.text.now) Progress-none c.in_ok-put.ensures refl in
    Progress-last _ _ (quoted c.args.text.now) step1 c.put_quoted.ensures refl
