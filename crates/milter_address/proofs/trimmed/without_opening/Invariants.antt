use Rattle.std.proofs.Common.{◌≡◌, length}
use Rattle.milter_address.specs.Address.{opens}
use Rattle.milter_address.specs.Trimmed.{trimmed_start}
use Rattle.milter_address.proofs.trimmed.without_opening.Given as goal

abbrev pub invariant-loop-rest : goal.invariant-loop-rest
invariant-loop-rest l = trimmed_start opens l.rest ≡ trimmed_start opens l.path

abbrev pub decreases-loop-rest : goal.decreases-loop-rest
decreases-loop-rest l = length l.rest
