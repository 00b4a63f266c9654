use Rattle.std.proofs.Common.{◌≡◌, ◌≤◌, ◌-◌, All}
use Rattle.std.specs.Vec.{vec_len}
use Rattle.milter_mta.proofs.state.SessionState.copies.Given as goal

-- so many copies were made
abbrev pub invariant-loop-self : goal.invariant-loop-self
invariant-loop-self l =
    (l.self ≡ l.initial.self) × All (λ copy. copy ≡ l.acted) l.copies.items × (vec_len l.copies ≤ l.count)

abbrev pub decreases-loop-self : goal.decreases-loop-self
decreases-loop-self l = l.count - vec_len l.copies
