use Rattle.std.proofs.Common.{ℕ, List, [], ◌∷◌, ◌++◌, ap, append-nil, refl}
use Rattle.milter_mail.specs.HeldText.{line_of}
use Rattle.milter_text.proofs.TextWriters.{Progress-fail, Progress-last, Progress-next, Progress-none}
use Rattle.milter_mta_client.proofs.report_lines.put_last_word.Goals as goal

pub returns-in_err-put : goal.returns-in_err-put
unfolding line_of
returns-in_err-put g c =
    let whole = ap (λ (x : List ℕ). x ++ 10 ∷ []) (append-nil c.args.word.now) in
    Progress-fail _ _ _ c.args.word.now (10 ∷ []) Progress-none c.in_err-put.ensures c.from_residual.ensures.0 whole

pub returns : goal.returns
unfolding line_of
returns g c =
    let whole = ap (λ (x : List ℕ). x ++ 10 ∷ []) (append-nil c.args.word.now) in
    let step1 = Progress-next c.args.word.now (10 ∷ []) Progress-none c.in_ok-put.ensures whole in
    Progress-last _ _ (10 ∷ []) step1 c.put-2.ensures refl
