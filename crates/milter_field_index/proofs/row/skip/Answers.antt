use Rattle.std.proofs.Common.{◌≡◌, ◌+◌, ◌-◌, ◌*◌, ℕ, List, ◌++◌, take, drop, sym, ap, ◌∙◌, arith}
use Rattle.std.specs.List.{sum}
use Rattle.std.proofs.lemmas.List.{take-append-drop, take-take, drop-take}
use Rattle.std.proofs.lemmas.List.Sums.{sum_by-append, sum_by-take-le}
use Rattle.milter_field_index.proofs.row.skip.Goals as goal

sum-take_more : (row : List ℕ) (i n : ℕ) → sum (take (i + n) row) ≡ sum (take i row) + sum (take n (drop i row))
sum-take_more row i n =
    let both : take (i + n) row ≡ take i row ++ take n (drop i row) =
    sym (take-append-drop i (take (i + n) row))
    ∙ ap (λ l. l ++ drop i (take (i + n) row)) (take-take i (i + n) row (omega arith))
    ∙ ap (λ l. take i row ++ l) (drop-take i n row) in
    ap sum both ∙ sum_by-append (λ x. x) (take i row) (take n (drop i row))

pub sum_of-count-requires : goal.sum_of-count-requires
sum_of-count-requires c =
    let row : List ℕ = c.args.row.now in
    let i : ℕ = c.loop-chunk.chunk * 64 in
    let width : i + 64 - i ≡ 64 = omega arith in
    let more = sum-take_more row i 64 in
    let least = sum_by-take-le (λ x. x) row (i + 64) in
    let same = ap (λ n. sum (take n (drop i row))) width in
    omega (arith, more, least, same, c.requires)

pub loop-chunk-preserved : goal.loop-chunk-preserved
loop-chunk-preserved c =
    let row : List ℕ = c.args.row.now in
    let i : ℕ = c.loop-chunk.chunk * 64 in
    let width : i + 64 - i ≡ 64 = omega arith in
    let count : c.sum_of-count.result ≡ sum (take 64 (drop i row)) = c.sum_of-count.ensures
    ∙ ap (λ n. sum (take n (drop i row))) width in
    let next : (c.loop-chunk.chunk + 1) * 64 ≡ i + 64 = omega arith in
    let more = ap (λ n. sum (take n row)) next ∙ sum-take_more row i 64 in
    omega (arith, more, count, c.loop-chunk.invariant, c.if-left-count.false)
