use Rattle.milter_message.proofs.EditFolds.{no_chunk, chunked_more, chunked_same}
use Rattle.milter_message.proofs.application.body_after.Goals as goal
use Rattle.milter_message.proofs.application.body_after.Goals.{in-ReplaceBody+in_ok-extend_from_slice, in_default}

pub loop-edit-preserved : goal.loop-edit-preserved
loop-edit-preserved c =
    let position = c.loop-edit.edit-index in
    let body = c.loop-edit.body.items in
    let edits = c.args.edits.now in
    elim c.match-edit.branch [
      | in-ReplaceBody+in_ok-extend_from_slice w ↦
          rw (w.body-is, w.replaced-is, w.in_ok-extend_from_slice.ensures.items, w.as_slice.ensures)
          (chunked_more c.loop-edit.replaced body w.in-ReplaceBody.chunk position edits c.edit-item.result c.loop-edit.invariant c.loop-edit-test.true c.edit-item.is w.in-ReplaceBody.is)
      | in_default w ↦
          rw (w.body-is, w.replaced-is)
          (chunked_same c.loop-edit.replaced body position edits c.edit-item.result c.loop-edit.invariant c.loop-edit-test.true c.edit-item.is (no_chunk c.edit-item.result w.in_default.not-ReplaceBody))
    ]
