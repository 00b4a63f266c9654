use Rattle.std.proofs.Common.{length, sym, ap, ◌∙◌}
use Rattle.std.proofs.lemmas.List.{length-map}
use Rattle.milter_field_index.specs.Fields.{entry_of}
use Rattle.milter_field_index.proofs.field_index.FieldIndex.len.Goals as goal

pub returns : goal.returns
returns c =
    c.len.ensures ∙ sym (length-map c.self.inside.ids (entry_of c.self.inside.names.items))
    ∙ ap (λ v. length v.entries) c.self.view_is
