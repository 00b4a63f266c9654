use Rattle.std.proofs.Common.{◌≡◌, ◌++◌, take, drop}
use Rattle.milter_lists.specs.Ranges.{raised}
use Rattle.milter_lists.proofs.number_range.raise_ends.Given as goal

-- those before this one have their ends
abbrev pub invariant-loop-range : goal.invariant-loop-range
invariant-loop-range l =
    take l.range-index l.range-items ++ raised l.end (drop l.range-index l.range-items) ≡ raised 0 l.fn.ranges.items
