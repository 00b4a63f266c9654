use Rattle.std.proofs.Common.{◌≡◌, length}
use Rattle.milter_address.specs.Trimmed.{trimmed_start}
use Rattle.milter_lists.specs.Listed.{is_blank}
use Rattle.milter_lists.proofs.trimmed.without_first_blanks.Given as goal

abbrev pub invariant-loop-rest : goal.invariant-loop-rest
invariant-loop-rest l = trimmed_start is_blank l.rest ≡ trimmed_start is_blank l.bytes

abbrev pub decreases-loop-rest : goal.decreases-loop-rest
decreases-loop-rest l = length l.rest
