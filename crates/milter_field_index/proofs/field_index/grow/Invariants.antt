use Rattle.std.proofs.Common.{◌≡◌, ◌+◌, ◌-◌, ◌≤◌, ◌++◌, [], length, replicate}
use Rattle.milter_field_index.proofs.field_index.grow.Given as goal

abbrev pub invariant-loop-alloc : goal.invariant-loop-alloc
invariant-loop-alloc l = (length l.initial.groups.items ≤ length
    l.groups.items) × (l.groups.items ≡ l.initial.groups.items ++ replicate
    (length l.groups.items - length l.initial.groups.items) [])

abbrev pub decreases-loop-alloc : goal.decreases-loop-alloc
decreases-loop-alloc l = l.group + 1 - length l.groups.items
