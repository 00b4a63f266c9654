use Rattle.std.proofs.Common.{rules, sym, ◌∙◌, ap, length-append}
use Rattle.std.specs.List.{flat_map}
use Rattle.milter_fields.specs.Field.{string}
use Rattle.milter_fields.proofs.BorrowedLists.{strings_encoded}
use Rattle.milter_fields.proofs.borrowed_lists.ParamsRef.payload_len.Goals as goal

pub returns : goal.returns
returns c =
    let bytes = c.self.inside.encoded.now in
    let more = c.self.inside.texts.now in
    let all = ap (flat_map string) (sym c.self.view_is) ∙ strings_encoded bytes more c.self.invariant in
    rw (all, length-append bytes (flat_map string more)) (search rules)
