use Rattle.std.proofs.Common.{◌≡◌, ◌++◌, ◌∷◌, map, take}
use Rattle.milter_text.specs.QuotedText.{quoted}
use Rattle.milter_trace.specs.PacketText.{fields_text}
use Rattle.milter_trace.proofs.fields.put_path.Given as goal

abbrev pub invariant-loop-param : goal.invariant-loop-param
invariant-loop-param l = l.text.items ≡ l.fn.text.items ++ fields_text (quoted l.path.address ∷ map quoted (take l.param-index l.path.params))
