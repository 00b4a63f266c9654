use Rattle.std.proofs.Common.{◌≡◌, ◌+◌, All, take}
use Rattle.std.specs.List.{sum_by}
use Rattle.milter_wire.specs.Reply.{Fits}
use Rattle.milter_message.specs.EditReplies.{reply_of, weight_of}
use Rattle.milter_message.specs.declared.message.TheConstants.{WEIGHT_MAX}
use Rattle.milter_filter_stream.proofs.answer_check.check_edits.Given as goal

-- the edits so far fit, and so much room is left
abbrev pub invariant-loop-edit : goal.invariant-loop-edit
invariant-loop-edit l = record {
  fit : All (λ edit. Fits (reply_of edit)) (take l.edit-index l.edits);
  room : sum_by weight_of (take l.edit-index l.edits) + l.room ≡ WEIGHT_MAX;
}
