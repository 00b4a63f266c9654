use Rattle.std.proofs.Common.{◌++◌, codes, refl}
use Rattle.milter_mta_client.specs.ReportsText.{by_words, numbered, outcome_line}
use Rattle.milter_text.proofs.TextWriters.{Progress-fail, Progress-last, Progress-next, Progress-none}
use Rattle.milter_mta_client.proofs.report_lines.put_message_line.Goals as goal

pub returns-in_err-put_numbered : goal.returns-in_err-put_numbered
returns-in_err-put_numbered g c =
    let report = c.args.report.now in
    let start = numbered (codes "message") c.args.number in
    Progress-fail _ _ _ start (by_words report.settled_by ++ outcome_line report.outcome) Progress-none c.in_err-put_numbered.ensures c.from_residual.ensures.0 refl

pub returns-in_err-put_by : goal.returns-in_err-put_by
returns-in_err-put_by g c =
    let report = c.args.report.now in
    let start = numbered (codes "message") c.args.number in
    let step1 = Progress-next start (by_words report.settled_by ++ outcome_line report.outcome) Progress-none c.in_ok-put_numbered.ensures refl in
    Progress-fail _ _ _ (by_words report.settled_by) (outcome_line report.outcome) step1 c.in_err-put_by.ensures c.from_residual-in_err-put_by.ensures.0 refl

pub returns : goal.returns
returns g c =
    let report = c.args.report.now in
    let start = numbered (codes "message") c.args.number in
    let step1 = Progress-next start (by_words report.settled_by ++ outcome_line report.outcome) Progress-none c.in_ok-put_numbered.ensures refl in
    let step2 = Progress-next (by_words report.settled_by) (outcome_line report.outcome) step1 c.in_ok-put_by.ensures refl in
    Progress-last _ _ (outcome_line report.outcome) step2 c.put_outcome.ensures refl
