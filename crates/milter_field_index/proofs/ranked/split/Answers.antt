use Rattle.std.proofs.Common.{◌≡◌, ◌++◌, ◌==◌, cond, ℕ, List, take, drop, sym, ap, subst, ◌∙◌}
use Rattle.std.proofs.lemmas.List.{take-append-drop}
use Rattle.std.proofs.lemmas.List.Sums.{sum_by-append}
use Rattle.milter_field_index.specs.Blocks.{joined, at, count_of, halved}
use Rattle.milter_field_index.specs.Counted.{Counted}
use Rattle.milter_field_index.proofs.Joins.{joined-halved}
use Rattle.milter_field_index.proofs.Counts.{counted-split, row-at}
use Rattle.milter_field_index.proofs.ranked.split.Goals as goal

pub split-requires-clause-total : goal.split-requires-clause-total
split-requires-clause-total c =
    let rows : List (List ℕ) = c.args.rows.now in
    let bs : List (List ℕ) = c.args.blocks.now in
    let t : ℕ = c.args.block in
    let low : List ℕ = c.split_at.result.0.now in
    let high : List ℕ = c.split_at.result.1.now in
    let whole : at bs t ≡ low ++ high = sym (take-append-drop c.args.half (at bs t))
    ∙ ap (λ l. take c.args.half l ++ drop c.args.half l) (sym c.block.ensures)
    ∙ ap (λ l. l ++ drop c.args.half c.block.result.now) (sym c.split_at.ensures.front)
    ∙ ap (λ l. low ++ l) (sym c.split_at.ensures.back) in
    λ s inside. row-at rows bs s t c.requires.counted inside c.requires.block
    ∙ ap (λ l. count_of s l) whole
    ∙ sum_by-append (λ (n : ℕ). cond (n == s) 1 0) low high

pub returns-clause-counted : goal.returns-clause-counted
returns-clause-counted c =
    let rows : List (List ℕ) = c.args.rows.now in
    let new : List (List ℕ) = c.in_ok-split.split in
    let bs : List (List ℕ) = c.args.blocks.now in
    let t : ℕ = c.args.block in
    let low : List ℕ = take c.args.half (at bs t) in
    let high : List ℕ = drop c.args.half (at bs t) in
    let first : c.split_at.result.0.now ≡ low = c.split_at.ensures.front ∙ ap (λ l. take c.args.half l) c.block.ensures in
    let second : c.split_at.result.1.now ≡ high = c.split_at.ensures.back ∙ ap (λ l. drop c.args.half l) c.block.ensures in
    let counted =
    counted-split rows new bs t low high c.requires.counted c.requires.block (take-append-drop c.args.half (at bs t))
    c.in_ok-split.ensures.len
    (λ s inside. c.in_ok-split.ensures.each s inside
    ∙ ap (λ l. halved t (count_of s l) (count_of s c.split_at.result.1.now) (at rows s)) first
    ∙ ap (λ l. halved t (count_of s low) (count_of s l) (at rows s)) second) in
    subst (λ (b : List (List ℕ)). Counted new b) (sym c.in_ok-split-2.ensures.ok) counted

pub returns-clause-same : goal.returns-clause-same
returns-clause-same c =
    let bs : List (List ℕ) = c.args.blocks.now in
    let t : ℕ = c.args.block in
    ap joined c.in_ok-split-2.ensures.ok
    ∙ joined-halved bs t (take c.args.half (at bs t)) (drop c.args.half (at bs t)) c.requires.block
    (take-append-drop c.args.half (at bs t))
