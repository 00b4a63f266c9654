use Rattle.std.proofs.Common.{◌≡◌, drop}
use Rattle.milter_message.specs.EditedMessage.{headers_after}
use Rattle.milter_message.proofs.insertions.headers_after_insertions.Given as goal

-- the rest of the edits makes of these fields what all make of the first
abbrev pub invariant-loop-edit : goal.invariant-loop-edit
invariant-loop-edit l =
    headers_after l.fn.leading_space l.fields (drop l.edit-index l.edits) ≡ headers_after l.fn.leading_space l.headers l.edits
