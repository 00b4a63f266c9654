use Rattle.std.proofs.Common.{◌≡◌, ◌++◌, take}
use Rattle.std.specs.List.{flat_map}
use Rattle.milter_trace.specs.PacketText.{fields_text, sym_list_fields}
use Rattle.milter_trace.proofs.fields.put_sym_lists.Given as goal

abbrev pub invariant-loop-list : goal.invariant-loop-list
invariant-loop-list l = l.text.items ≡ l.fn.text.items ++ fields_text (flat_map sym_list_fields (take l.list-index l.lists))
