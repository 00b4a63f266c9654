use Rattle.std.proofs.Common.{◌≤◌}
use Rattle.milter_replay.proofs.exchange_text.agreeing_last.Given as goal

abbrev pub invariant-loop-left : goal.invariant-loop-left
invariant-loop-left l = l.left ≤ l.most

abbrev pub decreases-loop-left : goal.decreases-loop-left
decreases-loop-left l = l.left
