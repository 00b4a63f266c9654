use Rattle.std.proofs.Common.{◌≡◌, length}
use Rattle.milter_address.specs.Mailbox.{is_route}
use Rattle.milter_address.proofs.route.is_route.Given as goal

abbrev pub invariant-loop-first : goal.invariant-loop-first
invariant-loop-first l = is_route l.rest ≡ is_route l.bytes

abbrev pub decreases-loop-first : goal.decreases-loop-first
decreases-loop-first l = length l.rest
