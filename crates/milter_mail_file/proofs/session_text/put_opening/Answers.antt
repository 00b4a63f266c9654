use Rattle.std.proofs.Common.{◌++◌, ◌∷◌, [], codes, refl}
use Rattle.milter_mail.specs.HeldText.{line_of}
use Rattle.milter_mail_file.specs.SessionText.{all_macro_lines, client_line, opening_text}
use Rattle.milter_text.proofs.TextWriters.{Progress-fail, Progress-last, Progress-next, Progress-none}
use Rattle.milter_mail_file.proofs.session_text.put_opening.Goals as goal

pub returns-in_err-put_client : goal.returns-in_err-put_client
unfolding opening_text
returns-in_err-put_client g c =
    let s = c.args.session.now in
    Progress-fail _ _ _ (client_line s.client) (line_of (codes "helo") (s.helo ∷ []) ++ all_macro_lines s.macros) Progress-none (rw c.client.ensures.client at c.in_err-put_client.ensures) c.from_residual.ensures.0 refl

pub returns-in_err-put_line : goal.returns-in_err-put_line
unfolding opening_text
returns-in_err-put_line g c =
    let s = c.args.session.now in
    let step1 = Progress-next (client_line s.client) (line_of (codes "helo") (s.helo ∷ []) ++ all_macro_lines s.macros) Progress-none (rw c.client.ensures.client at c.in_ok-put_client.ensures) refl in
    Progress-fail _ _ _ (line_of (codes "helo") (s.helo ∷ [])) (all_macro_lines s.macros) step1 (rw (c.as_slice.ensures, c.helo.ensures.helo) at c.in_err-put_line.ensures) c.from_residual-in_err-put_line.ensures.0 refl

pub returns : goal.returns
unfolding opening_text
returns g c =
    let s = c.args.session.now in
    let step1 = Progress-next (client_line s.client) (line_of (codes "helo") (s.helo ∷ []) ++ all_macro_lines s.macros) Progress-none (rw c.client.ensures.client at c.in_ok-put_client.ensures) refl in
    let step2 = Progress-next (line_of (codes "helo") (s.helo ∷ [])) (all_macro_lines s.macros) step1 (rw (c.as_slice.ensures, c.helo.ensures.helo) at c.in_ok-put_line.ensures) refl in
    Progress-last _ _ (all_macro_lines s.macros) step2 (rw c.macros.ensures.macros at c.put_macros.ensures) refl
