use Rattle.std.proofs.Common.{◌≡◌, ◌++◌, length}
use Rattle.milter_fields.proofs.borrowed_lists.ParamsRef.to_params.Given as goal

abbrev pub invariant-loop-text : goal.invariant-loop-text
invariant-loop-text l = l.texts.items ++ l.rest ≡ l.fn.self

abbrev pub decreases-loop-text : goal.decreases-loop-text
decreases-loop-text l = length l.rest
