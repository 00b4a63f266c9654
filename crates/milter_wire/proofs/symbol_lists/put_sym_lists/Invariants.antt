use Rattle.std.proofs.Common.{◌≡◌, ◌++◌, take}
use Rattle.std.specs.List.{flat_map}
use Rattle.milter_wire.specs.OptionsPayload.{sym_list}
use Rattle.milter_wire.proofs.symbol_lists.put_sym_lists.Given as goal

abbrev pub invariant-loop-list : goal.invariant-loop-list
invariant-loop-list l = l.out.items ≡ l.fn.out.items ++ flat_map sym_list (take l.list-index l.lists)
