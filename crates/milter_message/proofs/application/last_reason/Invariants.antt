use Rattle.std.proofs.Common.{◌≡◌, None, drop, option_map}
use Rattle.std.specs.List.{filter_map, last_or}
use Rattle.milter_message.specs.EditedMessage.{new_reason}
use Rattle.milter_message.proofs.application.last_reason.Given as goal

-- the last of the rest, or else the last so far
abbrev pub invariant-loop-edit : goal.invariant-loop-edit
invariant-loop-edit l = last_or (option_map (λ reason. reason.now) l.last) (filter_map new_reason (drop l.edit-index l.edits)) ≡ last_or None (filter_map new_reason l.edits)
