use Rattle.std.proofs.Common.{◌≡◌, ◌-◌, ◌^◌, length, min, take}
use Rattle.std.specs.List.{flat_map}
use Rattle.milter_fields.specs.Layout.{pair}
use Rattle.milter_fields.proofs.pair.pairs_len.Given as goal

abbrev pub invariant-loop-value : goal.invariant-loop-value
invariant-loop-value l = l.total ≡ min (length (flat_map pair (take l.value-index l.pairs))) (2 ^ 64 - 1)
