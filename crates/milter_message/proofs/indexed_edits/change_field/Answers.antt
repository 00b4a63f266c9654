use Rattle.std.proofs.Common.{ℕ, Option, None, Some, sym, ap, ◌∙◌}
use Rattle.milter_field_index.proofs.Results.{if_ok_then}
use Rattle.milter_message.specs.EditedFields.{changed, headers_of, numbered_fields, set_numbered}
use Rattle.milter_message.specs.EditedMessage.{change_at}
use Rattle.milter_message.proofs.FieldValues.{set_is_numbered}
use Rattle.milter_message.proofs.IndexedFields.{added_is_numbered, occurrence_is}
use Rattle.milter_message.proofs.indexed_edits.change_field.Goals as goal

pub returns-in-Some : goal.returns-in-Some
returns-in-Some c =
    let numbers = c.args.numbers.now in
    let headers = headers_of c.args.fields in
    let value = (changed c.args.source).value in
    c.set_field.ensures
    ∙ ap (set_numbered c.in-Some.position value) c.requires.fields
    ∙ set_is_numbered numbers c.in-Some.position value headers
    ∙ ap (λ (o : Option ℕ). numbered_fields numbers (change_at o (changed c.args.source) headers))
    (sym (occurrence_is numbers c.args.source c.args.name c.saturating_sub.result c.args.index c.args.fields
    (Some c.in-Some.position) c.requires.own c.requires.name c.requires.fields c.saturating_sub.ensures
    (sym c.nth.ensures ∙ c.in-Some.is)))

pub returns-in-None : goal.returns-in-None
returns-in-None c =
    if_ok_then c.add_field.result _ _ c.add_field.ensures
    (λ after is. is
    ∙ added_is_numbered c.args.numbers.now c.args.fields c.args.name c.args.source c.requires.fields c.requires.name
    ∙ ap (λ (o : Option ℕ). numbered_fields c.args.numbers.now (change_at o (changed c.args.source) (headers_of c.args.fields)))
    (sym (occurrence_is c.args.numbers.now c.args.source c.args.name c.saturating_sub.result c.args.index
    c.args.fields None c.requires.own c.requires.name c.requires.fields c.saturating_sub.ensures
    (sym c.nth.ensures ∙ c.in-None.is))))
