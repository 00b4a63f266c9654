use Rattle.milter_mail_file.specs.SessionText.{macro_line}
use Rattle.milter_text.proofs.TextWriters.{Progress-fail, Progress-next, Progress-none, flat_map-next}
use Rattle.milter_mail_file.proofs.session_text.put_stage.Goals as goal

pub loop-pair-init : goal.loop-pair-init
loop-pair-init g c = Progress-none

pub returns-in_err-put_macro : goal.returns-in_err-put_macro
returns-in_err-put_macro g c =
    let line = macro_line c.args.stage.now in
    let next = flat_map-next line c.args.pairs.now c.loop-pair.pair-index c.pair-item.result c.loop-pair-test.true c.pair-item.is in
    Progress-fail _ _ _ (line c.pair-item.result) _ c.loop-pair.invariant c.in_err-put_macro.ensures c.from_residual.ensures.0 next

pub loop-pair-preserved : goal.loop-pair-preserved
loop-pair-preserved g c =
    let line = macro_line c.args.stage.now in
    let next = flat_map-next line c.args.pairs.now c.loop-pair.pair-index c.pair-item.result c.loop-pair-test.true c.pair-item.is in
    Progress-next (line c.pair-item.result) _ c.loop-pair.invariant c.in_ok-put_macro.ensures next
