use Rattle.std.proofs.Common.{◌≡◌, take}
use Rattle.milter_field_index.specs.Blocks.{joined}
use Rattle.milter_field_index.proofs.sequence.Sequence.to_vec.Given as goal

abbrev pub invariant-loop-block : goal.invariant-loop-block
invariant-loop-block l = l.numbers.items ≡ joined (take l.block l.self-inside.blocks)
