use Rattle.std.proofs.Common.{List, ℕ, Vec, Global, ap, set}
use Rattle.std.specs.Vec.{with_item}
use Rattle.milter_field_index.proofs.Measures.{read-at, written-at}
use Rattle.milter_field_index.specs.Blocks.{at}
use Rattle.milter_field_index.proofs.rows.Rows.set.Goals as goal

pub returns : goal.returns
returns c =
    let rows : List (Vec ℕ Global) = c.self.inside.rows.items in
    let row =
    read-at rows c.args.self.now c.args.symbol c.index_mut.result.now c.self.view_is c.requires.symbol
    c.index_mut.ensures.value in
    written-at rows c.args.self.now c.args.symbol (with_item c.index_mut.result.now c.args.block c.args.count)
    (set (at c.args.self.now c.args.symbol) c.args.block c.args.count) c.self.view_is
    (ap (λ l. set l c.args.block c.args.count) row)
