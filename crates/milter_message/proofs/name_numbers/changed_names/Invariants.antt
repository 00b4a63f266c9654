use Rattle.std.proofs.Common.{◌≡◌, ◌++◌, drop}
use Rattle.std.specs.List.{filter_map}
use Rattle.milter_message.specs.NameNumbers.{changed_name}
use Rattle.milter_message.proofs.name_numbers.changed_names.Given as goal

-- those so far and those of the rest
abbrev pub invariant-loop-edit : goal.invariant-loop-edit
invariant-loop-edit l =
    l.names.items ++ filter_map changed_name (drop l.edit-index l.edits) ≡ filter_map changed_name l.edits
