use Rattle.std.proofs.Common.{◌≡◌, ◌==◌, false, length, sym, ◌∙◌}
use Rattle.milter_field_index.proofs.Results.{if_ok_then}
use Rattle.milter_message.proofs.IndexedFields.{added_last}
use Rattle.milter_message.proofs.indexed_edits.add_field.Goals as goal

pub returns : goal.returns
returns c =
    let some : (length c.args.source.value.now == 0) ≡ false = sym c.is_empty.ensures ∙ c.if-is_empty.false in
    if_ok_then c.insert.result _ _ c.insert.ensures
    (λ after is. added_last c.args.fields after c.len-position.result c.args.name c.args.source c.len-position.ensures
    some is)
