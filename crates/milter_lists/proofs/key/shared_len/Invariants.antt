use Rattle.std.proofs.Common.{length, ◌-◌, ◌≡◌, ◌≤◌, take}
use Rattle.milter_lists.proofs.key.shared_len.Given as goal

-- they begin alike so far
abbrev pub invariant-loop-shared : goal.invariant-loop-shared
invariant-loop-shared l = (l.shared ≤ length l.a) × (take l.shared l.a ≡ take l.shared l.b)

abbrev pub decreases-loop-shared : goal.decreases-loop-shared
decreases-loop-shared l = length l.a - l.shared
