use Rattle.std.proofs.Common.{◌≡◌, ◌+◌, ◌-◌, ◌≤◌, ◌++◌, ◌^◌, length, map, replicate}
use Rattle.milter_field_index.proofs.rows.Rows.grow.Given as goal

abbrev pub invariant-loop-alloc : goal.invariant-loop-alloc
invariant-loop-alloc l = (length l.initial.self-inside.rows.items ≤ length l.self-inside.rows.items) × (map
    (λ row. row.items) l.self-inside.rows.items ≡ map (λ row. row.items)
    l.initial.self-inside.rows.items ++ replicate
    (length l.self-inside.rows.items - length l.initial.self-inside.rows.items) (replicate l.blocks 0)) × (length
    l.self-inside.rows.items ≤ 2 ^ 32)

abbrev pub decreases-loop-alloc : goal.decreases-loop-alloc
decreases-loop-alloc l = l.symbol + 1 - length l.self-inside.rows.items
