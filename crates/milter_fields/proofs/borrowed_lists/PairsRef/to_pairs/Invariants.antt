use Rattle.std.proofs.Common.{◌≡◌, ◌++◌, length}
use Rattle.milter_fields.proofs.borrowed_lists.PairsRef.to_pairs.Given as goal

abbrev pub invariant-loop-pair : goal.invariant-loop-pair
invariant-loop-pair l = l.pairs.items ++ l.rest ≡ l.fn.self

abbrev pub decreases-loop-pair : goal.decreases-loop-pair
decreases-loop-pair l = length l.rest
