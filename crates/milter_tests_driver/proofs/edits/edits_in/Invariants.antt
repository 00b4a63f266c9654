use Rattle.std.proofs.Common.{All, length}
use Rattle.milter_wire.specs.Reply.{Fits}
use Rattle.milter_message.specs.EditReplies.{reply_of}
use Rattle.milter_tests_driver.proofs.edits.edits_in.Given as goal

abbrev pub decreases-loop-rest : goal.decreases-loop-rest
decreases-loop-rest l = length l.rest

abbrev pub invariant-loop-rest : goal.invariant-loop-rest
invariant-loop-rest l = All (λ edit. Fits (reply_of edit)) l.edits.items
