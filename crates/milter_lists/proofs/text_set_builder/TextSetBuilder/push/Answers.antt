use Rattle.std.proofs.Common.{◌≡◌, ◌<◌, ◌≤◌, ◌+◌, ◌++◌, ◌∷◌, [], length, arith, rules, ◌∙◌, ap}
use Rattle.std.proofs.lemmas.Grind.{common_steps}
use Rattle.milter_lists.proofs.Pushes.{IsPushed, pushed}
use Rattle.milter_lists.proofs.text_set_builder.TextSetBuilder.push.Goals as goal
use Rattle.milter_lists.proofs.text_set_builder.TextSetBuilder.push.Goals.{In_ok-push}

after_push : (c : In_ok-push) → IsPushed c.self.inside.bytes.items c.args.entry.now c.self.inside.spans.items
    c.extend_from_slice.new.self.items c.push.new.self.items
after_push c =
    let few : length c.self.inside.spans.items < 1000000 = grind (arith, common_steps, c.self.invariant.few) in
    let short : length c.self.inside.bytes.items + length c.args.entry.now ≤ 209715200 =
    grind (arith, common_steps, c.self.invariant.short) in
    let start : c.len-3.result ≡ length c.self.inside.bytes.items = search rules in
    let spans : c.push.new.self.items ≡ c.self.inside.spans.items ++ record { key = 0; start = c.len-3.result; len = length c.args.entry.now } ∷ [] =
    c.in_ok-push.ensures.items ∙ ap (λ s. s ++ record { key = 0; start = c.len-3.result; len = length c.args.entry.now } ∷ []) c.in_ok-reserve.ensures.items in
    pushed c.self.inside.bytes.items c.args.entry.now _ c.self.inside.spans.items _ c.len-3.result c.self.invariant
    few short start c.in_ok-extend_from_slice.ensures.items spans

pub invariant_of-self-2 : goal.invariant_of-self-2
invariant_of-self-2 c = (after_push c).kept

pub returns-clause-ok : goal.returns-clause-ok
returns-clause-ok c = rw (← c.self.view_is) (after_push c).added
