use Rattle.std.proofs.Common.{◌≡◌, ℕ, List, Vec, Global, map, sym, ap, ◌∙◌}
use Rattle.milter_field_index.specs.Fields.{Entry}
use Rattle.milter_field_index.proofs.Indexes.{ids-entries}
use Rattle.milter_field_index.proofs.Results.{if_ok_then}
use Rattle.milter_field_index.proofs.field_index.FieldIndex.ids.Goals as goal

pub returns : goal.returns
returns c =
    let ids_of : List Entry → List ℕ = λ l. map (λ (e : Entry). e.id) l in
    let same = sym (ids-entries c.self.inside.names.items c.self.inside.ids)
    ∙ ap (λ v. ids_of v.entries) c.self.view_is in
    if_ok_then c.to_vec.result (λ (v : Vec ℕ Global). v.items ≡ c.self.inside.ids)
    (λ (v : Vec ℕ Global). v.items ≡ ids_of c.args.self.now.entries) c.to_vec.ensures (λ v is. is ∙ same)
