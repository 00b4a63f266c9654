use Rattle.std.proofs.Common.{[], ◌∷◌, ◌++◌, refl}
use Rattle.std.specs.Prelude.{decimal}
use Rattle.milter_mail.specs.HeldText.{line_of, text_of}
use Rattle.milter_text.proofs.TextWriters.{Progress-fail, Progress-last, Progress-next, Progress-none}
use Rattle.milter_mail_file.proofs.session_text.put_endpoint.Goals as goal

pub returns-in_err-put : goal.returns-in_err-put
returns-in_err-put g c =
    let rest = line_of (decimal c.args.port) (c.args.address.now ∷ []) in
    Progress-fail _ _ _ c.args.start.now (text_of c.args.host.now ++ 32 ∷ rest) Progress-none c.in_err-put.ensures c.from_residual.ensures.0 refl

pub returns-in_err-put_text : goal.returns-in_err-put_text
returns-in_err-put_text g c =
    let rest = line_of (decimal c.args.port) (c.args.address.now ∷ []) in
    let step1 = Progress-next c.args.start.now (text_of c.args.host.now ++ 32 ∷ rest) Progress-none c.in_ok-put.ensures refl in
    Progress-fail _ _ _ (text_of c.args.host.now) (32 ∷ rest) step1 c.in_err-put_text.ensures c.from_residual-in_err-put_text.ensures.0 refl

pub returns-in_err-put-2 : goal.returns-in_err-put-2
returns-in_err-put-2 g c =
    let rest = line_of (decimal c.args.port) (c.args.address.now ∷ []) in
    let step1 = Progress-next c.args.start.now (text_of c.args.host.now ++ 32 ∷ rest) Progress-none c.in_ok-put.ensures refl in
    let step2 = Progress-next (text_of c.args.host.now) (32 ∷ rest) step1 c.in_ok-put_text.ensures refl in
    Progress-fail _ _ _ (32 ∷ []) rest step2 c.in_err-put-2.ensures c.from_residual-in_err-put-2.ensures.0 refl

pub returns : goal.returns
returns g c =
    let rest = line_of (decimal c.args.port) (c.args.address.now ∷ []) in
    let step1 = Progress-next c.args.start.now (text_of c.args.host.now ++ 32 ∷ rest) Progress-none c.in_ok-put.ensures refl in
    let step2 = Progress-next (text_of c.args.host.now) (32 ∷ rest) step1 c.in_ok-put_text.ensures refl in
    let step3 = Progress-next (32 ∷ []) rest step2 c.in_ok-put-2.ensures refl in
    Progress-last _ _ rest step3 (rw (c.as_bytes-port.ensures.value, c.format.ensures.text, c.from.ensures, c.as_slice.ensures) at c.put_line.ensures) refl
