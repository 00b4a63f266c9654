use Rattle.std.proofs.Common.{length}
use Rattle.milter_rules.proofs.rule_stages.rule_lines.Given as goal

abbrev pub decreases-loop-found : goal.decreases-loop-found
decreases-loop-found l = length l.lines.lines
