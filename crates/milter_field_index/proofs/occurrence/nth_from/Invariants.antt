use Rattle.std.proofs.Common.{◌≡◌, ◌==◌, drop}
use Rattle.milter_field_index.specs.Occurrence.{nth, shifted}
use Rattle.milter_field_index.proofs.occurrence.nth_from.Given as goal

-- what is left to find is found in the rest
abbrev pub invariant-loop-index : goal.invariant-loop-index
invariant-loop-index l = shifted l.index (nth (λ x. x == l.symbol) l.left (drop l.index l.symbols)) ≡ shifted l.start
    (nth (λ x. x == l.symbol) l.number (drop l.start l.symbols))
