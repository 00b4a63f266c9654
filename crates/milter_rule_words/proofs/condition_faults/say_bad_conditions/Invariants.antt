use Rattle.std.proofs.Common.{length}
use Rattle.milter_rule_words.proofs.condition_faults.say_bad_conditions.Given as goal

abbrev pub decreases-loop-joint : goal.decreases-loop-joint
decreases-loop-joint l = length l.rest
