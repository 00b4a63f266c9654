use Rattle.std.proofs.Common.{◌≡◌, ◌+◌, ◌-◌, ◌*◌, ◌/◌, ◌==◌, ◌≤◌, ℕ, length, take, drop, sym, ap, ◌∙◌, arith}
use Rattle.milter_field_index.specs.Blocks.{count_of}
use Rattle.milter_field_index.specs.Occurrence.{nth, shifted}
use Rattle.milter_field_index.proofs.Occurrences.{nth_more-part}
use Rattle.milter_field_index.proofs.occurrence.nth_in.Goals as goal

pub loop-chunk-preserved : goal.loop-chunk-preserved
loop-chunk-preserved c =
    let xs = c.args.symbols.now in
    let test = λ (x : ℕ). x == c.args.symbol in
    let i : ℕ = c.loop-chunk.chunk * 64 in
    let left : ℕ = c.loop-chunk.left in
    let width : i + 64 - i ≡ 64 = omega arith in
    let count : c.count_in-count.result ≡ count_of c.args.symbol (take 64 (drop i xs)) = c.count_in-count.ensures
    ∙ ap (λ n. count_of c.args.symbol (take n (drop i xs))) width in
    let next : (c.loop-chunk.chunk + 1) * 64 ≡ i + 64 = omega arith in
    let within : i + 64 ≤ length xs = omega (arith, c.loop-chunk-test.true) in
    let most : count_of c.args.symbol (take 64 (drop i xs)) ≤ left = omega (arith, count, c.if-left-count.false) in
    ap (λ n. shifted n (nth test (left - c.count_in-count.result) (drop n xs))) next
    ∙ ap (λ n. shifted (i + 64) (nth test (left - n) (drop (i + 64) xs))) count
    ∙ sym (nth_more-part test xs i 64 left within most)
    ∙ c.loop-chunk.invariant

pub returns : goal.returns
returns c =
    let xs = c.args.symbols.now in
    let test = λ (x : ℕ). x == c.args.symbol in
    let e : c.loop-chunk.chunk ≡ length xs / 64 =
    omega (arith, c.loop-chunk-test.false, c.loop-chunk.auto.chunk-end) in
    c.nth_from-2.ensures ∙ ap (λ n. shifted (n * 64) (nth test c.loop-chunk.left (drop (n * 64) xs))) (sym e)
    ∙ c.loop-chunk.invariant
