use Rattle.std.proofs.Common.{◌≡◌, ◌<◌, ℕ, length}
use Rattle.milter_field_index.specs.Blocks.{at, count_of, halved}
use Rattle.milter_field_index.proofs.Measures.{contents}
use Rattle.milter_field_index.proofs.rows.Rows.split.Given as goal

-- the rows so far are those of the symbols so far
abbrev pub invariant-loop-symbol : goal.invariant-loop-symbol
invariant-loop-symbol l = (length l.rows.items ≡ l.symbol) × ((symbol : ℕ) → symbol < l.symbol
    → at (contents l.rows.items) symbol ≡ halved l.block (count_of symbol l.low) (count_of symbol l.high)
    (at l.self symbol))
