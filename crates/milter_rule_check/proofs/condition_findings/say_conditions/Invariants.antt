use Rattle.std.proofs.Common.{length}
use Rattle.milter_rule_check.proofs.condition_findings.say_conditions.Given as goal

abbrev pub decreases-loop-group : goal.decreases-loop-group
decreases-loop-group l = length l.rest
