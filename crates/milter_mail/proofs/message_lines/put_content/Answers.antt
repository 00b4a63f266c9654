use Rattle.std.proofs.Common.{refl, [], ◌∷◌, ◌++◌, codes}
use Rattle.std.specs.List.{flat_map}
use Rattle.milter_mail.specs.HeldText.{header_line, line_of}
use Rattle.milter_text.proofs.TextWriters.{Progress-fail, Progress-last, Progress-next, Progress-none}
use Rattle.milter_mail.proofs.message_lines.put_content.Goals as goal

pub returns-in_err-put_headers : goal.returns-in_err-put_headers
unfolding line_of
returns-in_err-put_headers g c =
    Progress-fail _ _ _ (flat_map header_line c.args.message.now.headers) (line_of (codes "body") (c.args.message.now.body ∷ []) ++ line_of (codes "end") []) Progress-none (rw c.headers.ensures.headers at c.in_err-put_headers.ensures) c.from_residual.ensures.0 refl

pub returns-in_err-put_line : goal.returns-in_err-put_line
unfolding line_of
returns-in_err-put_line g c =
    let step1 = Progress-next (flat_map header_line c.args.message.now.headers) (line_of (codes "body") (c.args.message.now.body ∷ []) ++ line_of (codes "end") []) Progress-none (rw c.headers.ensures.headers at c.in_ok-put_headers.ensures) refl in
    Progress-fail _ _ _ (line_of (codes "body") (c.args.message.now.body ∷ [])) (line_of (codes "end") []) step1 (rw c.body.ensures at c.in_err-put_line.ensures) c.from_residual-in_err-put_line.ensures.0 refl

pub returns : goal.returns
unfolding line_of
returns g c =
    let step1 = Progress-next (flat_map header_line c.args.message.now.headers) (line_of (codes "body") (c.args.message.now.body ∷ []) ++ line_of (codes "end") []) Progress-none (rw c.headers.ensures.headers at c.in_ok-put_headers.ensures) refl in
    let step2 = Progress-next (line_of (codes "body") (c.args.message.now.body ∷ [])) (line_of (codes "end") []) step1 (rw c.body.ensures at c.in_ok-put_line.ensures) refl in
    Progress-last _ _ (line_of (codes "end") []) step2 c.put.ensures refl
