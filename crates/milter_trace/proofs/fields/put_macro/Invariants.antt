use Rattle.std.proofs.Common.{◌≡◌, ◌++◌, ◌∷◌, take}
use Rattle.std.specs.List.{flat_map}
use Rattle.milter_fields.specs.Code.{code_text}
use Rattle.milter_trace.specs.PacketText.{fields_text, pair_fields}
use Rattle.milter_trace.proofs.fields.put_macro.Given as goal

abbrev pub invariant-loop-pair : goal.invariant-loop-pair
invariant-loop-pair l = l.text.items ≡ l.fn.text.items ++ fields_text (code_text l.command ∷ flat_map pair_fields (take l.pair-index l.pairs))
