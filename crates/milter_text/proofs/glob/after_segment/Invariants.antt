use Rattle.std.proofs.Common.{◌≡◌, length}
use Rattle.milter_text.specs.Segments.{after_first}
use Rattle.milter_text.proofs.glob.after_segment.Given as goal

abbrev pub invariant-loop-case : goal.invariant-loop-case
invariant-loop-case l = after_first l.case l.segment l.rest ≡ after_first l.case l.segment l.value

abbrev pub decreases-loop-case : goal.decreases-loop-case
decreases-loop-case l = length l.rest
