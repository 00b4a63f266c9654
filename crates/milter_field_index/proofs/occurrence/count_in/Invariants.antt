use Rattle.std.proofs.Common.{◌≡◌, take}
use Rattle.milter_field_index.specs.Blocks.{count_of}
use Rattle.milter_field_index.proofs.occurrence.count_in.Given as goal

-- those so far are counted
abbrev pub invariant-loop-other : goal.invariant-loop-other
invariant-loop-other l = l.count ≡ count_of l.symbol (take l.other-index l.symbols)
