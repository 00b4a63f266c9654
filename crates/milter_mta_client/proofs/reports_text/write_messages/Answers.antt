use Rattle.std.proofs.Common.{◌≡◌, ◌+◌, ◌++◌, List, ℕ, drop, sym, ap, ◌∙◌, subst, Bool}
use Rattle.milter_text.specs.TextWriter.{WritesAllBut}
use Rattle.milter_mta_client.specs.ReportsText.{texts_from}
use Rattle.milter_mta_client.proofs.WrittenParts.{all_is_written, part_fails, part_is_written, texts-end, texts-next}
use Rattle.milter_mta_client.proofs.reports_text.write_messages.Goals as goal

pub returns-in_err-write_report : goal.returns-in_err-write_report
returns-in_err-write_report g c =
    let report = c.index-messages-index.result in
    let next = texts-next c.loop-index.is_named c.args.messages.now c.loop-index.index report c.loop-index-test.true c.index-messages-index.is in
    part_fails _ _ _ c.loop-index.invariant c.in_err-write_report.ensures c.from_residual.ensures.0 next

pub loop-index-preserved : goal.loop-index-preserved
loop-index-preserved g c =
    let report = c.index-messages-index.result in
    let next = texts-next c.loop-index.is_named c.args.messages.now c.loop-index.index report c.loop-index-test.true c.index-messages-index.is in
    rw (c.is_by_client-is_named.ensures) (part_is_written _ _ c.loop-index.invariant c.in_ok-write_report.ensures next)

pub returns : goal.returns
returns g c = all_is_written c.loop-index.invariant (texts-end c.loop-index.is_named c.args.messages.now c.loop-index.index c.loop-index-test.false)
