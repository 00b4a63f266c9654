use Rattle.std.proofs.Common.{refl}
use Rattle.milter_mta_outcome.specs.Losses.{is_by_client}
use Rattle.milter_text.proofs.TextWriters.{Progress-fail, Progress-last, Progress-next, Progress-none}
use Rattle.milter_mta_client.specs.ReportsText.{connection_line, named_verdict, report_lines}
use Rattle.milter_mta_client.proofs.reports_text.put_lines.Goals as goal

pub returns-in_err-put_connection : goal.returns-in_err-put_connection
returns-in_err-put_connection g c =
    let report = c.args.report.now in
    let line = connection_line (named_verdict c.args.place.is_named (is_by_client report.settled_by) report.acted) in
    Progress-fail _ _ _ line (report_lines c.args.place.number report) Progress-none (rw c.named_verdict.ensures at c.in_err-put_connection.ensures) c.from_residual.ensures.0 refl

pub returns : goal.returns
returns g c =
    let report = c.args.report.now in
    let line = connection_line (named_verdict c.args.place.is_named (is_by_client report.settled_by) report.acted) in
    let lines = report_lines c.args.place.number report in
    let step1 = Progress-next line lines Progress-none (rw c.named_verdict.ensures at c.in_ok-put_connection.ensures) refl in
    Progress-last _ _ lines step1 c.put_report.ensures refl
