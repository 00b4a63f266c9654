use Rattle.std.proofs.Common.{List, subst, ℕ}
use Rattle.std.specs.List.Sorted.{IsPermutation}
use Rattle.std.proofs.lemmas.List.Sorted.{Contains-permutation, IsPermutation-sym}
use Rattle.milter_lists.specs.Entries.{entries_of}
use Rattle.milter_lists.proofs.text_set_builder.TextSetBuilder.build.Goals as goal
use Rattle.milter_lists.proofs.text_set_builder.TextSetBuilder.build.Goals.{After-new}

in_order : (c : After-new) → IsPermutation c.args.self c.new.result
in_order c =
    let P = λ (bytes : List ℕ). IsPermutation (entries_of bytes c.self.inside.spans.items) (entries_of bytes c.sort_spans.new.spans.items) in
    rw (← c.self.view_is, c.new.ensures) (subst P c.as_slice.ensures.value c.sort_spans.ensures.permutation)

pub returns-clause-order : goal.returns-clause-order
returns-clause-order c = in_order c

pub returns-clause-texts : goal.returns-clause-texts
returns-clause-texts c = λ text.
    (Contains-permutation _ _ text (IsPermutation-sym _ _ (in_order c)), Contains-permutation _ _ text (in_order c))
