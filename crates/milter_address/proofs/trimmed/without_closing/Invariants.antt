use Rattle.std.proofs.Common.{◌≡◌, length}
use Rattle.milter_address.specs.Address.{closes}
use Rattle.milter_address.specs.Trimmed.{trimmed_end}
use Rattle.milter_address.proofs.trimmed.without_closing.Given as goal

abbrev pub invariant-loop-last : goal.invariant-loop-last
invariant-loop-last l = trimmed_end closes l.rest ≡ trimmed_end closes l.path

abbrev pub decreases-loop-last : goal.decreases-loop-last
decreases-loop-last l = length l.rest
