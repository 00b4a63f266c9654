use Rattle.std.proofs.lemmas.List.Elements.{All-push}
use Rattle.milter_wire.specs.Reply.{Fits}
use Rattle.milter_message.specs.declared.edit.Edit.{Edit}
use Rattle.milter_message.specs.EditReplies.{reply_of}
use Rattle.milter_tests_driver.proofs.edits.edits_in.Goals as goal

pub loop-rest-preserved : goal.loop-rest-preserved
loop-rest-preserved c = rw c.in_ok-push.ensures.items (All-push (λ (edit : Edit). Fits (reply_of edit)) c.loop-rest.edits.items c.in_ok-edit_of.field-0 c.loop-rest.invariant c.in_ok-edit_of.ensures)
