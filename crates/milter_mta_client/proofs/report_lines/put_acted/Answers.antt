use Rattle.std.proofs.Common.{◌++◌, codes, refl}
use Rattle.milter_wire.specs.Stages.{name_of}
use Rattle.milter_mta_client.specs.ReportsText.{numbered, verdict_line}
use Rattle.milter_text.proofs.TextWriters.{Progress-fail, Progress-last, Progress-next, Progress-none}
use Rattle.milter_mta_client.proofs.report_lines.put_acted.Goals as goal

pub returns-in_err-put : goal.returns-in_err-put
returns-in_err-put g c =
    let acted = c.args.acted.now in
    Progress-fail _ _ _ (codes "acted ") (numbered (name_of acted.stage) acted.nth ++ verdict_line acted.verdict) Progress-none c.in_err-put.ensures c.from_residual.ensures.0 refl

pub returns-in_err-put_numbered : goal.returns-in_err-put_numbered
returns-in_err-put_numbered g c =
    let acted = c.args.acted.now in
    let step1 = Progress-next (codes "acted ") (numbered (name_of acted.stage) acted.nth ++ verdict_line acted.verdict) Progress-none c.in_ok-put.ensures refl in
    Progress-fail _ _ _ (numbered (name_of acted.stage) acted.nth) (verdict_line acted.verdict) step1 (rw c.name.ensures at c.in_err-put_numbered.ensures) c.from_residual-in_err-put_numbered.ensures.0 refl

pub returns : goal.returns
returns g c =
    let acted = c.args.acted.now in
    let step1 = Progress-next (codes "acted ") (numbered (name_of acted.stage) acted.nth ++ verdict_line acted.verdict) Progress-none c.in_ok-put.ensures refl in
    let step2 = Progress-next (numbered (name_of acted.stage) acted.nth) (verdict_line acted.verdict) step1 (rw c.name.ensures at c.in_ok-put_numbered.ensures) refl in
    Progress-last _ _ (verdict_line acted.verdict) step2 c.put_verdict.ensures refl
