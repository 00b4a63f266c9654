use Rattle.std.proofs.Common.{◌≡◌, ◌++◌, drop}
use Rattle.milter_message.specs.Deletions.{kept_by}
use Rattle.milter_message.proofs.recipient_edits.kept_recipients.Given as goal

-- those kept so far and those of the rest
abbrev pub invariant-loop-recipient : goal.invariant-loop-recipient
invariant-loop-recipient l =
    l.kept.items ++ kept_by l.deletions (drop l.recipient-index l.recipients) ≡ kept_by l.deletions l.recipients
