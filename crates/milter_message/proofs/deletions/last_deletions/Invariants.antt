use Rattle.std.proofs.Common.{◌≡◌, take}
use Rattle.milter_message.specs.Deletions.{HasLastDeletions}
use Rattle.milter_message.proofs.deletions.last_deletions.Given as goal

-- those of the edits so far
abbrev pub invariant-loop-edit : goal.invariant-loop-edit
invariant-loop-edit l = record {
  last : HasLastDeletions (take l.edit-index l.edits) l.last;
  place : l.index ≡ l.edit-index;
}
