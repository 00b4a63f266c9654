use Rattle.std.proofs.Common.{◌≡◌, length}
use Rattle.milter_address.specs.Bytes.{is_dot}
use Rattle.milter_address.specs.Trimmed.{trimmed_end}
use Rattle.milter_address.proofs.trimmed.without_dots.Given as goal

abbrev pub invariant-loop-last : goal.invariant-loop-last
invariant-loop-last l = trimmed_end is_dot l.rest ≡ trimmed_end is_dot l.domain

abbrev pub decreases-loop-last : goal.decreases-loop-last
decreases-loop-last l = length l.rest
