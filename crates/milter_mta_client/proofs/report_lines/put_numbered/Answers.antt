use Rattle.std.proofs.Common.{[], ◌∷◌, ◌++◌, refl}
use Rattle.std.specs.Prelude.{decimal}
use Rattle.milter_text.proofs.TextWriters.{Progress-fail, Progress-last, Progress-next, Progress-none}
use Rattle.milter_mta_client.proofs.report_lines.put_numbered.Goals as goal

pub returns-in_err-put : goal.returns-in_err-put
returns-in_err-put g c =
    let digits = decimal c.args.number in
    Progress-fail _ _ _ c.args.word.now (32 ∷ digits ++ 32 ∷ []) Progress-none c.in_err-put.ensures c.from_residual.ensures.0 refl

pub returns-in_err-put-2 : goal.returns-in_err-put-2
returns-in_err-put-2 g c =
    let digits = decimal c.args.number in
    let step1 = Progress-next c.args.word.now (32 ∷ digits ++ 32 ∷ []) Progress-none c.in_ok-put.ensures refl in
    Progress-fail _ _ _ (32 ∷ []) (digits ++ 32 ∷ []) step1 c.in_err-put-2.ensures c.from_residual-in_err-put-2.ensures.0 refl

pub returns-in_err-put-3 : goal.returns-in_err-put-3
returns-in_err-put-3 g c =
    let digits = decimal c.args.number in
    let step1 = Progress-next c.args.word.now (32 ∷ digits ++ 32 ∷ []) Progress-none c.in_ok-put.ensures refl in
    let step2 = Progress-next (32 ∷ []) (digits ++ 32 ∷ []) step1 c.in_ok-put-2.ensures refl in
    Progress-fail _ _ _ digits (32 ∷ []) step2 (rw (c.as_bytes.ensures.value, c.format.ensures.text) at c.in_err-put-3.ensures) c.from_residual-in_err-put-3.ensures.0 refl

pub returns : goal.returns
returns g c =
    let digits = decimal c.args.number in
    let step1 = Progress-next c.args.word.now (32 ∷ digits ++ 32 ∷ []) Progress-none c.in_ok-put.ensures refl in
    let step2 = Progress-next (32 ∷ []) (digits ++ 32 ∷ []) step1 c.in_ok-put-2.ensures refl in
    let step3 = Progress-next digits (32 ∷ []) step2 (rw (c.as_bytes.ensures.value, c.format.ensures.text) at c.in_ok-put-3.ensures) refl in
    Progress-last _ _ (32 ∷ []) step3 c.put-4.ensures refl
