use Rattle.std.proofs.Common.{◌≡◌, ◌<◌, ℕ, List, [], length, map, get_or, set, take, refl, sym, ap, subst, ◌∙◌, arith}
use Rattle.std.specs.List.{remove, slice_get}
use Rattle.std.specs.Option.{option_map}
use Rattle.std.proofs.lemmas.List.{length-map, get_or_default}
use Rattle.milter_field_index.specs.Blocks.{at, count_of}
use Rattle.milter_field_index.specs.Fields.{Entry, entry_of, group_of, names_of}
use Rattle.milter_field_index.proofs.Edits.{map-remove, removed-some}
use Rattle.milter_field_index.proofs.Indexes.{same-fields, same-index, indexed-remove, found-at, id-at}
use Rattle.milter_field_index.proofs.TwoLevels.{rank-below}
use Rattle.milter_field_index.proofs.field_index.FieldIndex.remove.Goals as goal

pub index_mut-requires : goal.index_mut-requires
index_mut-requires c =
    let found =
    found-at c.self.inside.names.items c.self.inside.ids c.self.inside.top c.self.inside.groups.items
    c.args.position c.in_ok-id.id c.index.result.now c.self.invariant c.in_ok-id.ensures.value c.index.ensures in
    omega (arith, found.low, c.group_of-group.ensures, c.self.inside.groups.ok)

pub invariant_of-self-2 : goal.invariant_of-self-2
invariant_of-self-2 c =
    let names : List ℕ = c.self.inside.names.items in
    let ids : List ℕ = c.self.inside.ids in
    let top : List ℕ = c.self.inside.top in
    let groups : List (List ℕ) = c.self.inside.groups.items in
    let k : ℕ = c.args.position in
    let name : ℕ = c.index.result.now in
    let g = group_of name in
    let old : List ℕ = c.index_mut.result.now in
    let new : List ℕ = c.remove-3.new.self in
    let group_is = c.group_of-group.ensures in
    let found =
    found-at names ids top groups k c.in_ok-id.id name c.self.invariant c.in_ok-id.ensures.value c.index.ensures
    in
    let group : old ≡ at groups g =
    c.index_mut.ensures.value ∙ ap (λ j. get_or groups j old) group_is ∙ get_or_default groups g old [] found.low in
    let rank_is : c.rank-rank.result ≡ count_of g (take k top) = c.rank-rank.ensures
    ∙ ap (λ j. count_of j (take k top)) group_is in
    let below : c.rank-rank.result < length old =
    omega (
      arith,
      rank_is,
      ap length group,
      subst
          (λ (n : ℕ). count_of (group_of n) (take k top) < length (at groups (group_of n))) (sym found.is)
          (rank-below top (names_of names ids) groups k c.self.invariant.grouped found.inside),
    ) in
    let new_is : new ≡ remove (at groups g) (count_of g (take k top)) =
    removed-some old new c.rank-rank.result c.remove-3.result below c.remove-3.ensures.value c.remove-3.ensures.rest
    ∙ ap (λ l. remove l c.rank-rank.result) group ∙ ap (λ r. remove (at groups g) r) rank_is in
    let inside : k < length top =
    omega (
      arith,
      ap length c.self.invariant.grouped.whole,
      length-map (names_of names ids)
          (λ (n : ℕ). group_of n),
      found.inside,
    ) in
    let top_is : c.remove-2.new.self ≡ remove top k =
    removed-some top c.remove-2.new.self k c.remove-2.result inside c.remove-2.ensures.value
    c.remove-2.ensures.rest in
    same-index names names (remove ids k) c.remove.new.self (remove top k) c.remove-2.new.self
    (set groups g (remove (at groups g) (count_of g (take k top)))) (set groups c.group_of-group.result new)
    refl c.in_ok-id.ensures.rest top_is
    (ap (λ j. set groups j new) group_is ∙ ap (λ l. set groups g l) new_is)
    (indexed-remove names ids top groups k name c.self.invariant found.within found.is found.low)

pub returns-clause-value : goal.returns-clause-value
returns-clause-value c =
    c.in_ok-id.ensures.value
    ∙ sym (id-at c.self.inside.names.items c.self.inside.ids c.args.position)
    ∙ ap (λ v. option_map (λ (e : Entry). e.id) (slice_get v.entries c.args.position)) c.self.view_is

pub returns-clause-rest : goal.returns-clause-rest
returns-clause-rest c =
    let names : List ℕ = c.self.inside.names.items in
    let k : ℕ = c.args.position in
    let entries = ap (λ l. map (entry_of names) l) c.in_ok-id.ensures.rest
    ∙ map-remove (entry_of names) c.self.inside.ids k
    ∙ ap (λ v. remove v.entries k) c.self.view_is in
    same-fields (length names) c.args.self.now.inserted (map (entry_of names) c.remove.new.self)
    (remove c.args.self.now.entries k) (ap (λ v. v.inserted) c.self.view_is) entries
