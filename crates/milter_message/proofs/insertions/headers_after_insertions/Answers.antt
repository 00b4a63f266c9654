use Rattle.std.proofs.Common.{ap, ◌∙◌}
use Rattle.milter_message.specs.NameNumbers.{changed_name}
use Rattle.milter_message.proofs.OrderedFields.{none_changes}
use Rattle.milter_message.proofs.insertions.headers_after_insertions.Goals as goal

pub edit_field-requires : goal.edit_field-requires
edit_field-requires c =
    ap changed_name c.edit-item.is
    ∙ none_changes c.args.edits.now c.requires c.loop-edit.edit-index c.edit-item.result c.loop-edit-test.true
