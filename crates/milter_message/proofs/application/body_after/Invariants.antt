use Rattle.milter_message.proofs.EditFolds.{IsChunked}
use Rattle.milter_message.proofs.application.body_after.Given as goal

-- the chunks of the edits so far
abbrev pub invariant-loop-edit : goal.invariant-loop-edit
invariant-loop-edit l = IsChunked l.replaced l.body.items l.edit-index l.edits
