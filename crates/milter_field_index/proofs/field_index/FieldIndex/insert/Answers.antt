use Rattle.std.proofs.Common.{◌≡◌, ◌+◌, ◌-◌, ◌<◌, ◌≤◌, ℕ, List, [], ◌∷◌, ◌++◌, length, map, get_or, set, take, ap, ◌∙◌, arith}
use Rattle.std.specs.List.{insert}
use Rattle.std.proofs.lemmas.List.{length-map, length_push, get_or_default}
use Rattle.milter_field_index.specs.Blocks.{at, count_of}
use Rattle.milter_field_index.specs.Fields.{entry_of, group_of, member_of, names_of}
use Rattle.milter_field_index.proofs.Indexes.{same-fields, same-index, indexed-grow, indexed-insert, entries-insert}
use Rattle.milter_field_index.proofs.TwoLevels.{group-few, rank-within}
use Rattle.milter_field_index.proofs.field_index.FieldIndex.insert.Goals as goal

pub insert-requires-clause-within : goal.insert-requires-clause-within
insert-requires-clause-within c =
    let names : List ℕ = c.self.inside.names.items in
    let ids : List ℕ = c.self.inside.ids in
    let top : List ℕ = c.self.inside.top in
    let groups : List (List ℕ) = c.grow.new.groups.items in
    let g : ℕ = c.group_of-group.result in
    let i = indexed-grow names ids top c.self.inside.groups.items groups
    (length groups - length c.self.inside.groups.items) c.self.invariant c.in_ok-grow.ensures.more in
    let low : g < length groups = c.in_ok-grow.ensures.reaches in
    let group : c.index_mut.result.now ≡ at groups g = c.index_mut.ensures.value
    ∙ get_or_default groups g c.index_mut.result.now [] low in
    omega (
      arith,
      c.rank-rank.ensures,
      ap length group,
      rank-within top (names_of names ids) groups g c.args.position
          i.grouped low,
    )

pub insert-requires-clause-few : goal.insert-requires-clause-few
insert-requires-clause-few c =
    let names : List ℕ = c.self.inside.names.items in
    let ids : List ℕ = c.self.inside.ids in
    let top : List ℕ = c.self.inside.top in
    let groups : List (List ℕ) = c.grow.new.groups.items in
    let g : ℕ = c.group_of-group.result in
    let i = indexed-grow names ids top c.self.inside.groups.items groups
    (length groups - length c.self.inside.groups.items) c.self.invariant c.in_ok-grow.ensures.more in
    let low : g < length groups = c.in_ok-grow.ensures.reaches in
    let group : c.index_mut.result.now ≡ at groups g = c.index_mut.ensures.value
    ∙ get_or_default groups g c.index_mut.result.now [] low in
    omega (
      arith,
      ap length group,
      group-few top (names_of names ids) groups g i.grouped low,
      length-map ids
          (λ id. get_or names id 0),
      i.fewer,
      ap (λ v. v.inserted) c.self.view_is,
      c.requires.few,
    )

pub invariant_of-result : goal.invariant_of-result
invariant_of-result c =
    let names : List ℕ = c.self.inside.names.items in
    let ids : List ℕ = c.self.inside.ids in
    let top : List ℕ = c.self.inside.top in
    let groups : List (List ℕ) = c.grow.new.groups.items in
    let k : ℕ = c.args.position in
    let name : ℕ = c.args.name in
    let new : List ℕ = c.insert.new.self in
    let group_is = c.group_of-group.ensures in
    let i = indexed-grow names ids top c.self.inside.groups.items groups
    (length groups - length c.self.inside.groups.items) c.self.invariant c.in_ok-grow.ensures.more in
    let low : group_of name < length groups = omega (arith, c.in_ok-grow.ensures.reaches, group_is) in
    let within : k ≤ length ids =
    omega (arith, c.requires.within, ap (λ v. length v.entries) c.self.view_is, length-map ids (entry_of names))
    in
    let group : c.index_mut.result.now ≡ at groups (group_of name) =
    c.index_mut.ensures.value ∙ ap (λ g. get_or groups g c.index_mut.result.now) group_is
    ∙ get_or_default groups (group_of name) c.index_mut.result.now [] low in
    let rank_is : c.rank-rank.result ≡ count_of (group_of name) (take k top) = c.rank-rank.ensures
    ∙ ap (λ g. count_of g (take k top)) group_is in
    let new_is : new ≡ insert (at groups (group_of name)) (count_of (group_of name) (take k top)) (member_of name) =
    c.in_ok-insert.ensures.ok
    ∙ ap (λ l. insert l c.rank-rank.result c.member_of.result) group
    ∙ ap (λ r. insert (at groups (group_of name)) r c.member_of.result) rank_is
    ∙ ap (λ m. insert (at groups (group_of name)) (count_of (group_of name) (take k top)) m) c.member_of.ensures in
    let count : c.len.result ≡ length names = omega (arith, c.len.ensures, c.self.inside.names.ok) in
    same-index (names ++ name ∷ []) c.push.new.self.items (insert ids k (length names)) c.insert-3.new.self
    (insert top k (group_of name)) c.insert-2.new.self
    (set groups (group_of name) (insert (at groups (group_of name)) (count_of (group_of name) (take k top))
    (member_of name))) (set groups c.group_of-group.result new)
    c.in_ok-push.ensures.items
    (c.in_ok-insert-3.ensures.ok ∙ ap (λ n. insert ids k n) count)
    (c.in_ok-insert-2.ensures.ok ∙ ap (λ g. insert top k g) group_is)
    (ap (λ g. set groups g new) group_is ∙ ap (λ l. set groups (group_of name) l) new_is)
    (indexed-insert names ids top groups k name i within low)

pub returns : goal.returns
returns c =
    let names : List ℕ = c.self.inside.names.items in
    let ids : List ℕ = c.self.inside.ids in
    let k : ℕ = c.args.position in
    let name : ℕ = c.args.name in
    let count : length names ≡ c.args.self.inserted = ap (λ v. v.inserted) c.self.view_is in
    let len : length c.push.new.self.items ≡ c.args.self.inserted + 1 = ap length c.in_ok-push.ensures.items
    ∙ length_push names name ∙ ap (λ n. n + 1) count in
    let id : c.len.result ≡ length names = omega (arith, c.len.ensures, c.self.inside.names.ok) in
    let ids_is : c.insert-3.new.self ≡ insert ids k (length names) = c.in_ok-insert-3.ensures.ok
    ∙ ap (λ n. insert ids k n) id in
    let entries = ap (λ l. map (entry_of l) c.insert-3.new.self) c.in_ok-push.ensures.items
    ∙ ap (λ l. map (entry_of (names ++ name ∷ [])) l) ids_is
    ∙ entries-insert names ids k name c.self.invariant.named
    ∙ ap (λ v. insert v.entries k (record { id = length names; name = name })) c.self.view_is
    ∙ ap (λ n. insert c.args.self.entries k (record { id = n; name = name })) count in
    same-fields (length c.push.new.self.items) (c.args.self.inserted + 1)
    (map (entry_of c.push.new.self.items) c.insert-3.new.self)
    (insert c.args.self.entries k (record { id = c.args.self.inserted; name = name })) len entries
