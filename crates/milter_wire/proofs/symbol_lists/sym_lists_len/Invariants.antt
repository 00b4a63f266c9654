use Rattle.std.proofs.Common.{◌≡◌, ◌-◌, ◌^◌, length, min, take}
use Rattle.std.specs.List.{flat_map}
use Rattle.milter_wire.specs.OptionsPayload.{sym_list}
use Rattle.milter_wire.proofs.symbol_lists.sym_lists_len.Given as goal

abbrev pub invariant-loop-list : goal.invariant-loop-list
invariant-loop-list l = l.total ≡ min (length (flat_map sym_list (take l.list-index l.lists))) (2 ^ 64 - 1)
