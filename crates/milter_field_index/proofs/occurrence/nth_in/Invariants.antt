use Rattle.std.proofs.Common.{◌≡◌, ◌*◌, ◌==◌, drop}
use Rattle.milter_field_index.specs.Occurrence.{nth, shifted}
use Rattle.milter_field_index.proofs.occurrence.nth_in.Given as goal

-- what is left to find is found in the rest
abbrev pub invariant-loop-chunk : goal.invariant-loop-chunk
invariant-loop-chunk l = shifted (l.chunk * 64)
    (nth (λ x. x == l.symbol) l.left (drop (l.chunk * 64) l.symbols)) ≡ nth (λ x. x == l.symbol) l.number l.symbols
