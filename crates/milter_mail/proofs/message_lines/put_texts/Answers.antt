use Rattle.milter_mail.specs.HeldText.{text_of}
use Rattle.milter_text.proofs.TextWriters.{Progress-fail, Progress-next, Progress-none, flat_map-next}
use Rattle.milter_mail.proofs.message_lines.put_texts.Goals as goal

pub loop-text-init : goal.loop-text-init
loop-text-init g c = Progress-none

pub returns-in_err-put_text : goal.returns-in_err-put_text
returns-in_err-put_text g c =
    let next = flat_map-next text_of c.args.texts.now c.loop-text.text-index c.text-item.result c.loop-text-test.true c.text-item.is in
    Progress-fail _ _ _ (text_of c.text-item.result) _ c.loop-text.invariant (rw c.as_slice.ensures at c.in_err-put_text.ensures) c.from_residual.ensures.0 next

pub loop-text-preserved : goal.loop-text-preserved
loop-text-preserved g c =
    let next = flat_map-next text_of c.args.texts.now c.loop-text.text-index c.text-item.result c.loop-text-test.true c.text-item.is in
    Progress-next (text_of c.text-item.result) _ c.loop-text.invariant (rw c.as_slice.ensures at c.in_ok-put_text.ensures) next
