use Rattle.std.proofs.Common.{◌≡◌, ◌++◌, drop}
use Rattle.milter_message.specs.Deletions.{kept_added}
use Rattle.milter_message.proofs.recipient_edits.add_recipients.Given as goal

-- those added so far and those of the rest of the edits
abbrev pub invariant-loop-edit : goal.invariant-loop-edit
invariant-loop-edit l = record {
  added : l.recipients.items ++ kept_added (drop l.edit-index l.edits) ≡ l.fn.recipients.items ++ kept_added l.edits;
  place : l.next ≡ l.edit-index;
}
