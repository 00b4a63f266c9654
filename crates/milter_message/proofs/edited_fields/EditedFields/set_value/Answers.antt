use Rattle.std.proofs.Common.{◌≡◌, ◌<◌, List, ℕ, length, map, sym, ap, ◌∙◌, arith}
use Rattle.std.proofs.lemmas.List.{length-map, map-set}
use Rattle.milter_fields.specs.declared.header.Header.{Header}
use Rattle.milter_message.specs.declared.source.Source.{Source}
use Rattle.milter_message.specs.EditedFields.{field_of, header_at, shown, with_value_at}
use Rattle.milter_message.proofs.FieldValues.{id_within, value_at, value_past}
use Rattle.milter_message.proofs.IndexedFields.{shown_at}
use Rattle.milter_message.proofs.edited_fields.EditedFields.set_value.Goals as goal

pub returns-in-Some : goal.returns-in-Some
returns-in-Some c =
    let sources = c.self.inside.sources.items in
    let entries = c.self.inside.index.entries in
    let position : ℕ = c.args.position in
    let id : ℕ = c.in-Some.id in
    let new : Source = record {
      name = c.index.result.now.name;
      value = c.args.source.value;
      leading_space = c.args.source.leading_space;
    } in
    let within : id < length sources =
    id_within sources entries position id c.self.invariant.within c.in-Some.ensures in
    let name_is : (shown new).name ≡ (header_at (map shown sources) id).name =
    ap (λ (h : Header). h.name) (shown_at sources id c.index.result.now within c.index.ensures) in
    ap (λ l. map (field_of l) entries) (map-set shown sources id new)
    ∙ value_at (map shown sources) id (shown new) entries position (omega (arith, within, length-map sources shown))
    (c.self.invariant.apart id) c.in-Some.ensures name_is
    ∙ ap (with_value_at position (shown new).value) c.self.view_is

pub returns-in_default : goal.returns-in_default
returns-in_default c =
    let sources = c.self.inside.sources.items in
    let value : List ℕ = (shown c.args.source).value in
    sym c.self.view_is
    ∙ value_past value (map shown sources) c.self.inside.index.entries c.args.position (sym c.in_default.is ∙ c.id.ensures)
    ∙ ap (with_value_at c.args.position value) c.self.view_is
