use Rattle.std.proofs.Common.{◌≡◌, length}
use Rattle.milter_address.specs.LocalPart.{is_dot_string}
use Rattle.milter_address.proofs.atoms.is_dot_string.Given as goal

abbrev pub invariant-loop-atom : goal.invariant-loop-atom
invariant-loop-atom l = is_dot_string l.rest ≡ is_dot_string l.bytes

abbrev pub decreases-loop-atom : goal.decreases-loop-atom
decreases-loop-atom l = length l.rest
