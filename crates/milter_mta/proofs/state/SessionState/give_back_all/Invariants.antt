use Rattle.std.proofs.Common.{◌≡◌}
use Rattle.std.specs.Vec.{vec_len}
use Rattle.milter_mta.proofs.state.SessionState.give_back_all.Given as goal

abbrev pub invariant-loop-copy : goal.invariant-loop-copy
invariant-loop-copy l = l.self ≡ l.initial.self

abbrev pub decreases-loop-copy : goal.decreases-loop-copy
decreases-loop-copy l = vec_len l.copies
