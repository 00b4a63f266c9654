use Rattle.std.proofs.Common.{arith, rules, ◌≡◌, drop, length, subst, List}
use Rattle.std.specs.Cmp.Lexicographic.{nat_list_cmp_total}
use Rattle.std.specs.List.Sorted.{IsPermutation, IsSortedBy}
use Rattle.std.specs.Ordering.{is_lt}
use Rattle.std.proofs.lemmas.Cmp.{nat_cmp_total, on_total, then_total}
use Rattle.std.proofs.lemmas.Fn.{always_returns_same}
use Rattle.std.proofs.lemmas.List.Sorted.{All-permutation, IsPermutation-map, ranks_by}
use Rattle.milter_lists.specs.declared.span.Span.{Span}
use Rattle.milter_lists.specs.Entries.{entries_of, entry_of}
use Rattle.milter_lists.specs.Keys.{AreKeyed, BeginWith, key_of, keyed_cmp}
use Rattle.milter_lists.proofs.Sorting.{begin_stays, sorted_by_entry}
use Rattle.milter_lists.proofs.sort.sort_spans.Goals as goal
use Rattle.milter_lists.proofs.sort.sort_spans.Goals.{After-sort_unstable_by}

-- keys are given, and then the spans move
moved : (c : After-sort_unstable_by)
    → IsPermutation (entries_of c.args.bytes.now c.args.spans.now.items) (entries_of c.args.bytes.now c.sort_unstable_by.new.self.items)
moved c =
    let bytes = c.args.bytes.now in
    let P = λ (entries : List (List _)). IsPermutation entries (entries_of bytes c.sort_unstable_by.new.self.items) in
    subst P c.set_keys.ensures.entries
    (IsPermutation-map (entry_of bytes) _ _ c.sort_unstable_by.ensures.permutation)

pub returns-clause-permutation : goal.returns-clause-permutation
returns-clause-permutation c = moved c

pub returns-clause-sorted : goal.returns-clause-sorted
returns-clause-sorted c =
    let bytes = c.args.bytes.now in
    let prefix = c.shared_prefix-prefix.result.now in
    let spans = c.sort_unstable_by.new.self.items in
    let start : BeginWith bytes prefix c.args.spans.now.items =
    subst (BeginWith bytes prefix) c.as_slice.ensures.value c.shared_prefix-prefix.ensures in
    let keyed : AreKeyed bytes (length prefix) spans =
    All-permutation (λ (span : Span). span.key ≡ key_of (drop (length prefix) (entry_of bytes span))) _ _
    c.sort_unstable_by.ensures.permutation c.set_keys.ensures.keys in
    let in_order : IsSortedBy (λ a b. is_lt (keyed_cmp bytes a b)) spans =
    c.sort_unstable_by.ensures.sorted (λ a b. is_lt (keyed_cmp bytes a b))
    (ranks_by (then_total (on_total (λ (span : Span). span.key) nat_cmp_total) (on_total (entry_of bytes) nat_list_cmp_total)) (λ span. span))
    (always_returns_same _ _ _ (λ a r f k. search rules)) in
    sorted_by_entry bytes prefix spans (λ k. omega (arith, c.type_inv.bytes k))
    (begin_stays bytes prefix c.args.spans.now.items spans (moved c) start) keyed in_order
