use Rattle.std.proofs.Common.{◌≡◌, ◌-◌, List, ℕ, Vec, Global, take, drop, get_or, set, sym, ap, subst, ◌∙◌}
use Rattle.std.proofs.lemmas.List.{take_rest}
use Rattle.milter_field_index.specs.Blocks.{at, halved, Measured}
use Rattle.milter_field_index.proofs.Measures.{contents, split-at, measured-split}
use Rattle.milter_field_index.proofs.blocks.Blocks.split.Goals as goal

pub invariant_of-self-2 : goal.invariant_of-self-2
invariant_of-self-2 c =
    let bs : List (Vec ℕ Global) = c.self.inside.blocks.items in
    let lens : List ℕ = c.self.inside.lens.items in
    let ys : List (List ℕ) = c.args.self.now in
    let t : ℕ = c.args.block in
    let n : ℕ = c.index.result.now in
    let low : Vec ℕ Global = c.truncate.new.self in
    let high : Vec ℕ Global = c.in_ok-high.high in
    let b : Vec ℕ Global = c.index-2.result.now in
    let second : high.items ≡ drop c.args.half b.items = c.in_ok-high.ensures.items ∙ take_rest c.as_slice-2.result.now c.args.half
    ∙ ap (λ l. drop c.args.half l) c.as_slice-2.ensures.value in
    let later : c.index_mut.result.now ≡ _ = c.index_mut.ensures.value
    ∙ ap (λ l. get_or l t c.index_mut.result.now) c.in_ok-insert.ensures.items in
    let view = ap (λ l. contents (set l t low)) c.in_ok-insert.ensures.items
    ∙ split-at bs ys t c.args.half b c.index_mut.result.now low high c.self.view_is c.requires.within c.index-2.ensures
    second later c.truncate.ensures.items in
    let m = subst (λ (y : List (List ℕ)). Measured lens y) c.self.view_is c.self.invariant in
    let lens2 : c.in_ok-lens.lens.items ≡ halved t c.args.half (n - c.args.half) lens = c.in_ok-lens.ensures
    ∙ ap (λ l. halved t c.args.half (n - c.args.half) l) c.as_slice.ensures.value in
    let counted = measured-split lens ys t c.args.half n m c.requires.within c.index.ensures c.requires.long in
    subst (λ (y : List (List ℕ)). Measured c.in_ok-lens.lens.items y) (sym view)
    (subst (λ (l : List ℕ). Measured l (halved t (take c.args.half (at ys t)) (drop c.args.half (at ys t)) ys)) (sym lens2)
    counted)

pub returns-clause-ok : goal.returns-clause-ok
returns-clause-ok c =
    let bs : List (Vec ℕ Global) = c.self.inside.blocks.items in
    let ys : List (List ℕ) = c.args.self.now in
    let t : ℕ = c.args.block in
    let low : Vec ℕ Global = c.truncate.new.self in
    let high : Vec ℕ Global = c.in_ok-high.high in
    let b : Vec ℕ Global = c.index-2.result.now in
    let second : high.items ≡ drop c.args.half b.items = c.in_ok-high.ensures.items ∙ take_rest c.as_slice-2.result.now c.args.half
    ∙ ap (λ l. drop c.args.half l) c.as_slice-2.ensures.value in
    let later : c.index_mut.result.now ≡ _ = c.index_mut.ensures.value
    ∙ ap (λ l. get_or l t c.index_mut.result.now) c.in_ok-insert.ensures.items in
    ap (λ l. contents (set l t low)) c.in_ok-insert.ensures.items
    ∙ split-at bs ys t c.args.half b c.index_mut.result.now low high c.self.view_is c.requires.within c.index-2.ensures
    second later c.truncate.ensures.items
