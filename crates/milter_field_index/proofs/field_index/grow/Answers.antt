use Rattle.std.proofs.Common.{◌≡◌, ◌+◌, ◌-◌, ◌≤◌, ℕ, List, [], ◌∷◌, ◌++◌, length, replicate, sym, ap, ◌∙◌, arith}
use Rattle.std.proofs.lemmas.List.{length_push, append_assoc, replicate_more}
use Rattle.milter_field_index.proofs.field_index.grow.Goals as goal

-- one empty group more
more-groups : (groups more start : List (List ℕ)) (group : List ℕ) → length start ≤ length groups
    → groups ≡ start ++ replicate (length groups - length start) [] → more ≡ groups ++ group ∷ [] → group ≡ []
    → more ≡ start ++ replicate (length more - length start) []
more-groups groups more start group longer so_far pushed is =
    let n = length groups - length start in
    let next : length more - length start ≡ n + 1 =
    omega (arith, ap length pushed, length_push groups group, longer) in
    pushed
    ∙ ap (λ l. l ++ group ∷ []) so_far ∙ ap (λ (y : List ℕ). start ++ replicate n [] ++ y ∷ []) is
    ∙ append_assoc start (replicate n []) ([] ∷ [])
    ∙ ap (λ l. start ++ l) (replicate_more n [])
    ∙ ap (λ k. start ++ replicate k []) (sym next)

pub loop-alloc-preserved : goal.loop-alloc-preserved
loop-alloc-preserved c =
    let groups : List (List ℕ) = c.loop-alloc.groups.items in
    let start : List (List ℕ) = c.args.groups.now.items in
    let longer : length start ≤ length c.push.new.self.items =
    omega (
      arith,
      c.loop-alloc.invariant.0,
      ap length c.in_ok-push.ensures.items,
      length_push groups
          c.in_ok-new.field-0,
    ) in (
      longer,
      more-groups groups c.push.new.self.items start c.in_ok-new.field-0 c.loop-alloc.invariant.0
          c.loop-alloc.invariant.1 c.in_ok-push.ensures.items c.in_ok-new.ensures,
    )
