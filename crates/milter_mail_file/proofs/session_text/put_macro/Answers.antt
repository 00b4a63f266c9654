use Rattle.std.proofs.Common.{[], ◌∷◌, codes, refl}
use Rattle.milter_mail.specs.HeldText.{line_of}
use Rattle.milter_text.proofs.TextWriters.{Progress-fail, Progress-last, Progress-next, Progress-none}
use Rattle.milter_mail_file.proofs.session_text.put_macro.Goals as goal

pub returns-in_err-put : goal.returns-in_err-put
unfolding line_of
returns-in_err-put g c =
    let pair = c.args.pair.now in
    Progress-fail _ _ _ (codes "macro ") (line_of c.args.stage.now (pair.name ∷ pair.value ∷ [])) Progress-none c.in_err-put.ensures c.from_residual.ensures.0 refl

pub returns : goal.returns
unfolding line_of
returns g c =
    let pair = c.args.pair.now in
    let step1 = Progress-next (codes "macro ") (line_of c.args.stage.now (pair.name ∷ pair.value ∷ [])) Progress-none c.in_ok-put.ensures refl in
    Progress-last _ _ (line_of c.args.stage.now (pair.name ∷ pair.value ∷ [])) step1 (rw (c.from_ref.ensures.value, c.as_slice.ensures) at c.put_line.ensures) refl
