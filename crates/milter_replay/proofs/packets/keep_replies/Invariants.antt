use Rattle.std.proofs.Common.{length}
use Rattle.milter_replay.proofs.packets.keep_replies.Given as goal

abbrev pub decreases-loop-taken : goal.decreases-loop-taken
decreases-loop-taken l = length l.rest
