use Rattle.std.proofs.Common.{◌≡◌, ◌<◌, ◌≤◌, ◌==◌, ℕ, List, [], Some, None, length, get_or, sym, ap, ◌∙◌, arith}
use Rattle.std.proofs.lemmas.List.{get_or_default}
use Rattle.milter_field_index.specs.Blocks.{at}
use Rattle.milter_field_index.specs.Fields.{Entry, group_of, member_of, names_of}
use Rattle.milter_field_index.specs.Occurrence.{nth}
use Rattle.milter_field_index.proofs.Indexes.{nth-entries}
use Rattle.milter_field_index.proofs.TwoLevels.{nth-grouped, nth-ungrouped, nth_of}
use Rattle.milter_field_index.proofs.field_index.FieldIndex.nth.Goals as goal

pub returns-then-group-len : goal.returns-then-group-len
returns-then-group-len c =
    let names : List ℕ = c.self.inside.names.items in
    let ids : List ℕ = c.self.inside.ids in
    let groups : List (List ℕ) = c.self.inside.groups.items in
    let past : length groups ≤ group_of c.args.name =
    omega (arith, c.if-group-len.true, c.len.ensures, c.group_of-group.ensures) in
    sym (nth-ungrouped c.self.inside.top (names_of names ids) groups c.args.name c.args.number
    c.self.invariant.grouped past)
    ∙ sym (nth-entries names ids c.args.name c.args.number)
    ∙ ap (λ v. nth (λ (e : Entry). e.name == c.args.name) c.args.number v.entries) c.self.view_is

pub returns-in_err-rank : goal.returns-in_err-rank
returns-in_err-rank c =
    let names : List ℕ = c.self.inside.names.items in
    let ids : List ℕ = c.self.inside.ids in
    let top : List ℕ = c.self.inside.top in
    let groups : List (List ℕ) = c.self.inside.groups.items in
    let name : ℕ = c.args.name in
    let number : ℕ = c.args.number in
    let low : group_of name < length groups =
    omega (arith, c.if-group-len.false, c.len.ensures, c.group_of-group.ensures) in
    let group : c.index.result.now ≡ at groups (group_of name) =
    c.index.ensures ∙ ap (λ g. get_or groups g c.index.result.now) c.group_of-group.ensures
    ∙ get_or_default groups (group_of name) c.index.result.now [] low in
    let inner : None ≡ nth (λ x. x == member_of name) number (at groups (group_of name)) =
    c.in_err-rank.ensures ∙ ap (λ m. nth (λ x. x == m) number c.index.result.now) c.member_of.ensures
    ∙ ap (λ l. nth (λ x. x == member_of name) number l) group in
    c.from_residual.ensures
    ∙ ap (λ r. nth_of (λ x. x == group_of name) top r) inner
    ∙ sym (nth-grouped top (names_of names ids) groups name number c.self.invariant.grouped low)
    ∙ sym (nth-entries names ids name number)
    ∙ ap (λ v. nth (λ (e : Entry). e.name == name) number v.entries) c.self.view_is

pub returns : goal.returns
returns c =
    let names : List ℕ = c.self.inside.names.items in
    let ids : List ℕ = c.self.inside.ids in
    let top : List ℕ = c.self.inside.top in
    let groups : List (List ℕ) = c.self.inside.groups.items in
    let name : ℕ = c.args.name in
    let number : ℕ = c.args.number in
    let low : group_of name < length groups =
    omega (arith, c.if-group-len.false, c.len.ensures, c.group_of-group.ensures) in
    let group : c.index.result.now ≡ at groups (group_of name) =
    c.index.ensures ∙ ap (λ g. get_or groups g c.index.result.now) c.group_of-group.ensures
    ∙ get_or_default groups (group_of name) c.index.result.now [] low in
    let inner : Some c.in_ok-rank.rank ≡ nth (λ x. x == member_of name) number (at groups (group_of name)) =
    c.in_ok-rank.ensures ∙ ap (λ m. nth (λ x. x == m) number c.index.result.now) c.member_of.ensures
    ∙ ap (λ l. nth (λ x. x == member_of name) number l) group in
    c.select-2.ensures
    ∙ ap (λ g. nth (λ x. x == g) c.in_ok-rank.rank top) c.group_of-group.ensures
    ∙ ap (λ r. nth_of (λ x. x == group_of name) top r) inner
    ∙ sym (nth-grouped top (names_of names ids) groups name number c.self.invariant.grouped low)
    ∙ sym (nth-entries names ids name number)
    ∙ ap (λ v. nth (λ (e : Entry). e.name == name) number v.entries) c.self.view_is
