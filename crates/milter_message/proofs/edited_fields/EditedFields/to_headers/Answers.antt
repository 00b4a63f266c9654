use Rattle.std.proofs.Common.{◌<◌, ℕ, List, length, map, subst, sym, ap, ◌∙◌}
use Rattle.std.specs.List.{All}
use Rattle.std.proofs.lemmas.List.Elements.{All-map}
use Rattle.milter_field_index.specs.Fields.{Entry}
use Rattle.milter_field_index.proofs.Results.{if_ok_then}
use Rattle.milter_message.specs.declared.source.Source.{Source}
use Rattle.milter_message.specs.EditedFields.{header_at, headers_of, shown}
use Rattle.milter_message.proofs.IndexedFields.{headers_shown}
use Rattle.milter_message.proofs.edited_fields.EditedFields.to_headers.Goals as goal

abbrev within : List Source → ℕ → Type 0
within sources id = id < length sources

pub copies_of-requires : goal.copies_of-requires
copies_of-requires c =
    let sources = c.self.inside.sources.items in
    let entries = c.self.inside.index.entries in
    subst (All (within c.as_slice.result.now)) (sym (c.as_slice-2.ensures.value ∙ c.in_ok-ids.ensures))
    (subst (λ (s : List Source). All (within s) (map (λ (e : Entry). e.id) entries)) (sym c.as_slice.ensures.value)
    (All-map (within sources) (λ (e : Entry). e.id) entries c.self.invariant.within))

pub returns : goal.returns
returns c =
    let sources = c.self.inside.sources.items in
    let entries = c.self.inside.index.entries in
    if_ok_then c.copies_of.result _ _ c.copies_of.ensures
    (λ headers is. is
    ∙ ap (λ (s : List Source). map (header_at (map shown s)) c.as_slice-2.result.now) c.as_slice.ensures.value
    ∙ ap (map (header_at (map shown sources))) (c.as_slice-2.ensures.value ∙ c.in_ok-ids.ensures)
    ∙ headers_shown (map shown sources) entries
    ∙ ap headers_of c.self.view_is)
