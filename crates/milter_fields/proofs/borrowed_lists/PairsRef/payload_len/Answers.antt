use Rattle.std.proofs.Common.{rules, sym, ◌∙◌, ap, length-append}
use Rattle.std.specs.List.{flat_map}
use Rattle.milter_fields.specs.Layout.{pair}
use Rattle.milter_fields.proofs.BorrowedLists.{pairs_encoded}
use Rattle.milter_fields.proofs.borrowed_lists.PairsRef.payload_len.Goals as goal

pub returns : goal.returns
returns c =
    let bytes = c.self.inside.encoded.now in
    let more = c.self.inside.pairs.now in
    let all = ap (flat_map pair) (sym c.self.view_is) ∙ pairs_encoded bytes more c.self.invariant in
    rw (all, length-append bytes (flat_map pair more)) (search rules)
