use Rattle.std.proofs.Common.{◌≡◌, None, drop, option_map}
use Rattle.std.specs.List.{filter_map, last_or}
use Rattle.milter_message.specs.EditedMessage.{new_sender, params_of}
use Rattle.milter_message.proofs.recipient_edits.last_sender.Given as goal

-- the last of the rest, or else the last so far
abbrev pub invariant-loop-edit : goal.invariant-loop-edit
invariant-loop-edit l =
    last_or (option_map (λ found. record { address = found.0.now; params = params_of found.1.now }) l.last) (filter_map new_sender (drop l.edit-index l.edits))
    ≡ last_or None (filter_map new_sender l.edits)
