use Rattle.std.proofs.Common.{◌≡◌, ◌+◌, ◌<◌, ◌≤◌, ◌==◌, ℕ, List, length, take, sym, ap, subst, ◌∙◌, arith, length-take}
use Rattle.std.specs.List.{sum}
use Rattle.std.proofs.lemmas.List.Sums.{sum_by-take-le, count_by-le-length}
use Rattle.milter_field_index.specs.Blocks.{joined, at, count_of, counts}
use Rattle.milter_field_index.proofs.Joins.{block-le_joined, place_within}
use Rattle.milter_field_index.proofs.Counts.{count-past, row-few}
use Rattle.milter_field_index.proofs.Occurrences.{count-blocks}
use Rattle.milter_field_index.specs.Symbols.{HasOnly}
use Rattle.milter_field_index.proofs.OneSymbol.{count-only}
use Rattle.milter_field_index.proofs.ranked.Ranked.rank.Goals as goal

pub returns-then-symbol-len : goal.returns-then-symbol-len
returns-then-symbol-len c =
    let rows : List (List ℕ) = c.self.inside.rows in
    let bs : List (List ℕ) = c.self.inside.blocks in
    let past : length rows ≤ c.args.symbol = omega (arith, c.if-symbol-len.true, c.len.ensures) in
    sym (ap (λ l. count_of c.args.symbol (take c.args.index l)) (sym c.self.view_is)
    ∙ count-past rows bs c.args.symbol c.args.index c.self.invariant.counted past)

pub returns-then-are_all : goal.returns-then-are_all
returns-then-are_all c =
    let xs : List ℕ = c.args.self.now in
    let s : ℕ = c.args.symbol in
    let only : HasOnly s xs = subst (HasOnly s) c.self.view_is
    (c.self.invariant.known s (sym c.are_all.ensures ∙ c.if-are_all.true)) in
    sym (count-only s xs c.args.index only c.requires)

pub sum_of-requires : goal.sum_of-requires
sum_of-requires c =
    let rows : List (List ℕ) = c.self.inside.rows in
    let bs : List (List ℕ) = c.self.inside.blocks in
    let low : c.args.symbol < length rows = omega (arith, c.if-symbol-len.false, c.len.ensures) in
    omega (
      arith,
      sum_by-take-le (λ x. x) c.row-row.result.now c.find_new-place.result.block,
      ap sum c.row-row.ensures,
      row-few rows bs c.args.symbol c.self.invariant.counted low,
      c.find_new-place.ensures.few,
    )

pub count_before-requires-clause-few : goal.count_before-requires-clause-few
count_before-requires-clause-few c =
    let bs : List (List ℕ) = c.self.inside.blocks in
    let t : ℕ = c.find_new-place.result.block in
    let within = place_within bs t c.find_new-place.result.offset c.args.index c.find_new-place.ensures.found in
    omega (
      arith,
      ap length c.block-block.ensures,
      block-le_joined bs t within,
      c.find_new-place.ensures.few,
    )

pub returns : goal.returns
returns c =
    let rows : List (List ℕ) = c.self.inside.rows in
    let bs : List (List ℕ) = c.self.inside.blocks in
    let s : ℕ = c.args.symbol in
    let t : ℕ = c.find_new-place.result.block in
    let o : ℕ = c.find_new-place.result.offset in
    let low : s < length rows = omega (arith, c.if-symbol-len.false, c.len.ensures) in
    let first : c.sum_of.result ≡ sum (take t (counts s bs)) = c.sum_of.ensures
    ∙ ap (λ l. sum (take t l)) (c.row-row.ensures ∙ c.self.invariant.counted.each s low) in
    let second : c.count_before.result ≡ count_of s (take o (at bs t)) = c.count_before.ensures
    ∙ ap (λ l. count_of s (take o l)) c.block-block.ensures in
    let whole = count-blocks s bs t o c.args.index c.find_new-place.ensures.found c.find_new-place.ensures.inside in
    ap (λ n. n + c.count_before.result) first ∙ ap (λ n. sum (take t (counts s bs)) + n) second ∙ sym whole
    ∙ ap (λ l. count_of s (take c.args.index l)) c.self.view_is

pub overflow_add-result : goal.overflow_add-result
overflow_add-result c =
    let rows : List (List ℕ) = c.self.inside.rows in
    let bs : List (List ℕ) = c.self.inside.blocks in
    let s : ℕ = c.args.symbol in
    let t : ℕ = c.find_new-place.result.block in
    let o : ℕ = c.find_new-place.result.offset in
    let low : s < length rows = omega (arith, c.if-symbol-len.false, c.len.ensures) in
    let first : c.sum_of.result ≡ sum (take t (counts s bs)) = c.sum_of.ensures
    ∙ ap (λ l. sum (take t l)) (c.row-row.ensures ∙ c.self.invariant.counted.each s low) in
    let second : c.count_before.result ≡ count_of s (take o (at bs t)) = c.count_before.ensures
    ∙ ap (λ l. count_of s (take o l)) c.block-block.ensures in
    let whole = count-blocks s bs t o c.args.index c.find_new-place.ensures.found c.find_new-place.ensures.inside in
    omega (
      arith,
      first,
      second,
      whole,
      count_by-le-length (λ (x : ℕ). x == s) (take c.args.index (joined bs)),
      length-take c.args.index (joined bs),
      c.find_new-place.ensures.few,
    )
