use Rattle.std.proofs.Common.{codes, refl}
use Rattle.milter_mta_client.specs.ReportsText.{verdict_line}
use Rattle.milter_text.proofs.TextWriters.{Progress-all, Progress-fail, Progress-last, Progress-next, Progress-none}
use Rattle.milter_mta_client.proofs.report_lines.put_connection.Goals as goal

pub returns-in_default : goal.returns-in_default
returns-in_default g c = rw c.in_default.is (Progress-all Progress-none refl)

pub returns-in_err-put : goal.returns-in_err-put
returns-in_err-put g c =
    rw c.in-Some.is (Progress-fail _ _ _ (codes "connection ") (verdict_line c.in-Some.verdict.now) Progress-none c.in_err-put.ensures c.from_residual.ensures.0 refl)

pub returns : goal.returns
returns g c =
    let verdict = verdict_line c.in-Some.verdict.now in
    let step1 = Progress-next (codes "connection ") verdict Progress-none c.in_ok-put.ensures refl in
    rw c.in-Some.is (Progress-last _ _ verdict step1 c.put_verdict.ensures refl)
