use Rattle.std.proofs.Common.{◌≡◌, ◌++◌, take}
use Rattle.std.specs.List.{flat_map}
use Rattle.milter_fields.specs.Field.{string}
use Rattle.milter_fields.proofs.sequences.put_strings.Given as goal

abbrev pub invariant-loop-text : goal.invariant-loop-text
invariant-loop-text l = l.out.items ≡ l.fn.out.items ++ flat_map string (take l.text-index l.texts)
