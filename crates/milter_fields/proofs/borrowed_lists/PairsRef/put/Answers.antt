use Rattle.std.proofs.Common.{sym, ◌∙◌, ap}
use Rattle.std.specs.List.{flat_map}
use Rattle.milter_fields.specs.Layout.{pair}
use Rattle.milter_fields.proofs.BorrowedLists.{pairs_encoded}
use Rattle.milter_fields.proofs.Written.{puts_more}
use Rattle.milter_fields.proofs.borrowed_lists.PairsRef.put.Goals as goal

pub returns : goal.returns
returns c =
    let all = ap (flat_map pair) (sym c.self.view_is) ∙ pairs_encoded c.self.inside.encoded.now c.self.inside.pairs.now c.self.invariant in
    rw all (puts_more _ _ _ _ _ c.put_pairs.result c.in_ok-put_bytes.ensures.0 c.put_pairs.ensures)
