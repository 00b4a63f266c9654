use Rattle.milter_mta_client.specs.ReportsText.{acted_line}
use Rattle.milter_text.proofs.TextWriters.{Progress-fail, Progress-next, Progress-none, flat_map-next}
use Rattle.milter_mta_client.proofs.report_lines.put_acted_lines.Goals as goal

pub loop-acted-init : goal.loop-acted-init
loop-acted-init g c = Progress-none

pub returns-in_err-put_acted : goal.returns-in_err-put_acted
returns-in_err-put_acted g c =
    let next = flat_map-next acted_line c.args.verdicts.now c.loop-acted.acted-index c.acted-item.result c.loop-acted-test.true c.acted-item.is in
    Progress-fail _ _ _ (acted_line c.acted-item.result) _ c.loop-acted.invariant c.in_err-put_acted.ensures c.from_residual.ensures.0 next

pub loop-acted-preserved : goal.loop-acted-preserved
loop-acted-preserved g c =
    let next = flat_map-next acted_line c.args.verdicts.now c.loop-acted.acted-index c.acted-item.result c.loop-acted-test.true c.acted-item.is in
    Progress-next (acted_line c.acted-item.result) _ c.loop-acted.invariant c.in_ok-put_acted.ensures next
