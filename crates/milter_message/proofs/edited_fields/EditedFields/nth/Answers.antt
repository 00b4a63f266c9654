use Rattle.std.proofs.Common.{◌==◌, Bool, map, sym, ap, ◌∙◌}
use Rattle.milter_field_index.specs.Occurrence.{nth}
use Rattle.milter_field_index.proofs.Edits.{nth-map}
use Rattle.milter_message.specs.EditedFields.{NumberedField, field_of, shown}
use Rattle.milter_message.proofs.edited_fields.EditedFields.nth.Goals as goal

pub returns : goal.returns
returns c =
    let named : NumberedField → Bool = λ field. field.name == c.args.name in
    let sources = c.self.inside.sources.items in
    c.nth.ensures
    ∙ sym (nth-map named (field_of (map shown sources)) c.args.number c.self.inside.index.entries)
    ∙ ap (nth named c.args.number) c.self.view_is
