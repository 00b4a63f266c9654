use Rattle.std.proofs.Common.{map, ap, ◌∙◌}
use Rattle.std.specs.List.{remove}
use Rattle.milter_field_index.proofs.Edits.{map-remove}
use Rattle.milter_message.specs.EditedFields.{field_of, fields_of, shown}
use Rattle.milter_message.proofs.FieldValues.{index_removed, sources_removed}
use Rattle.milter_message.proofs.edited_fields.EditedFields.remove.Goals as goal

pub invariant_of-self : goal.invariant_of-self
invariant_of-self c =
    sources_removed c.self.inside.sources.items c.self.inside.index c.remove.new.self c.args.position c.self.invariant
    (index_removed c.self.inside.index c.remove.new.self c.args.position c.remove.result c.remove.ensures.value
    c.remove.ensures.rest)

pub returns : goal.returns
returns c =
    let sources = c.self.inside.sources.items in
    let removed =
    index_removed c.self.inside.index c.remove.new.self c.args.position c.remove.result c.remove.ensures.value
    c.remove.ensures.rest in
    ap (fields_of sources) removed.entries
    ∙ map-remove (field_of (map shown sources)) c.self.inside.index.entries c.args.position
    ∙ ap (λ l. remove l c.args.position) c.self.view_is
