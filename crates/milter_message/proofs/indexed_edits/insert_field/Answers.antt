use Rattle.milter_field_index.proofs.Results.{if_ok_then}
use Rattle.milter_message.specs.EditedFields.{shown}
use Rattle.milter_message.proofs.IndexedFields.{inserted}
use Rattle.milter_message.proofs.indexed_edits.insert_field.Goals as goal

pub returns : goal.returns
returns c =
    if_ok_then c.insert.result _ _ c.insert.ensures
    (λ after is. inserted c.args.numbers.now c.args.fields after c.args.position c.in_ok-name.name (shown c.args.source)
    c.requires.fields c.in_ok-name.ensures is)
