use Rattle.std.proofs.Common.{refl}
use Rattle.std.specs.List.{flat_map}
use Rattle.milter_mta_client.specs.ReportsText.{acted_line, message_line}
use Rattle.milter_text.proofs.TextWriters.{Progress-fail, Progress-last, Progress-next, Progress-none}
use Rattle.milter_mta_client.proofs.report_lines.put_report.Goals as goal

pub returns-in_err-put_message_line : goal.returns-in_err-put_message_line
returns-in_err-put_message_line g c =
    let report = c.args.report.now in
    let lines = flat_map acted_line report.acted in
    Progress-fail _ _ _ (message_line c.args.number report) lines Progress-none c.in_err-put_message_line.ensures c.from_residual.ensures.0 refl

pub returns : goal.returns
returns g c =
    let report = c.args.report.now in
    let lines = flat_map acted_line report.acted in
    let step1 = Progress-next (message_line c.args.number report) lines Progress-none c.in_ok-put_message_line.ensures refl in
    Progress-last _ _ lines step1 (rw c.as_slice.ensures at c.put_acted_lines.ensures) refl
