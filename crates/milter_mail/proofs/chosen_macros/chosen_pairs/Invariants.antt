use Rattle.std.proofs.Common.{drop, map}
use Rattle.milter_mail.specs.ChosenMacros.{names_of}
use Rattle.milter_mail.proofs.MacroChoice.{Choosing}
use Rattle.milter_mail.proofs.chosen_macros.chosen_pairs.Given as goal

abbrev pub invariant-loop-part : goal.invariant-loop-part
invariant-loop-part l = Choosing (names_of l.fn.names) (map (λ part. part.now) (drop l.part-index l.part-items)) l.fn.pairs l.last l.chosen.items
