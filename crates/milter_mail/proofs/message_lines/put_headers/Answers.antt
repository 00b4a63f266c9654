use Rattle.milter_mail.specs.HeldText.{header_line}
use Rattle.milter_text.proofs.TextWriters.{Progress-fail, Progress-next, Progress-none, flat_map-next}
use Rattle.milter_mail.proofs.message_lines.put_headers.Goals as goal

pub loop-header-init : goal.loop-header-init
loop-header-init g c = Progress-none

pub returns-in_err-put_line : goal.returns-in_err-put_line
returns-in_err-put_line g c =
    let next = flat_map-next header_line c.args.headers.now c.loop-header.header-index c.header-item.result c.loop-header-test.true c.header-item.is in
    Progress-fail _ _ _ (header_line c.header-item.result) _ c.loop-header.invariant (rw (c.from_ref-value.ensures.value, c.as_slice.ensures) at c.in_err-put_line.ensures) c.from_residual.ensures.0 next

pub loop-header-preserved : goal.loop-header-preserved
loop-header-preserved g c =
    let next = flat_map-next header_line c.args.headers.now c.loop-header.header-index c.header-item.result c.loop-header-test.true c.header-item.is in
    Progress-next (header_line c.header-item.result) _ c.loop-header.invariant (rw (c.from_ref-value.ensures.value, c.as_slice.ensures) at c.in_ok-put_line.ensures) next
