use Rattle.std.proofs.Common.{◌≡◌, drop}
use Rattle.milter_message.specs.EditedMessage.{occurrence, positions_from}
use Rattle.milter_message.proofs.header_edits.position_of.Given as goal

-- what is counted among the rest
abbrev pub invariant-loop-position : goal.invariant-loop-position
invariant-loop-position l = occurrence l.left (positions_from l.position l.name (drop l.position l.headers)) ≡ occurrence l.index (positions_from 0 l.name l.headers)
