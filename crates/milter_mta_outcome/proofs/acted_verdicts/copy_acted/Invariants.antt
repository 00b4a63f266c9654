use Rattle.std.proofs.Common.{◌≡◌, take}
use Rattle.milter_mta_outcome.proofs.acted_verdicts.copy_acted.Given as goal

abbrev pub invariant-loop-last : goal.invariant-loop-last
invariant-loop-last l = l.room.items ≡ take l.last-index l.acted
