use Rattle.std.proofs.Common.{sym, ◌∙◌, ap}
use Rattle.std.specs.List.{flat_map}
use Rattle.milter_fields.specs.Field.{string}
use Rattle.milter_fields.proofs.BorrowedLists.{strings_encoded}
use Rattle.milter_fields.proofs.Written.{puts_more}
use Rattle.milter_fields.proofs.borrowed_lists.ParamsRef.put.Goals as goal

pub returns : goal.returns
returns c =
    let all = ap (flat_map string) (sym c.self.view_is) ∙ strings_encoded c.self.inside.encoded.now c.self.inside.texts.now c.self.invariant in
    rw all (puts_more _ _ _ _ _ c.put_strings.result c.in_ok-put_bytes.ensures.0 c.put_strings.ensures)
