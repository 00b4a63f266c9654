use Rattle.std.proofs.Common.{◌≡◌, ◌-◌, ◌^◌, length, min, take}
use Rattle.std.specs.List.{flat_map}
use Rattle.milter_fields.specs.Field.{string}
use Rattle.milter_fields.proofs.sequences.strings_len.Given as goal

abbrev pub invariant-loop-text : goal.invariant-loop-text
invariant-loop-text l = l.total ≡ min (length (flat_map string (take l.text-index l.texts))) (2 ^ 64 - 1)
