use Rattle.std.proofs.Common.{◌≡◌, length}
use Rattle.milter_address.specs.Trimmed.{trimmed_end}
use Rattle.milter_lists.specs.Listed.{is_blank}
use Rattle.milter_lists.proofs.trimmed.without_last_blanks.Given as goal

abbrev pub invariant-loop-last : goal.invariant-loop-last
invariant-loop-last l = trimmed_end is_blank l.rest ≡ trimmed_end is_blank l.bytes

abbrev pub decreases-loop-last : goal.decreases-loop-last
decreases-loop-last l = length l.rest
