use Rattle.std.proofs.Common.{◌≡◌, ◌+◌, Bool, inl, inr, ◌<◌, ◌≤◌, ◌==◌, ℕ, List, Option, Some, None, IfSome, length, get_or, take, sym, ap, subst, ◌∙◌, arith}
use Rattle.std.specs.List.{sum}
use Rattle.std.specs.Bool.{then_some}
use Rattle.std.proofs.lemmas.Bool.{cases_lt, le-ltb, lt-ltb}
use Rattle.std.proofs.lemmas.List.Sums.{count_by-le-length, sum_by-take-le}
use Rattle.milter_field_index.specs.Blocks.{joined, lengths, at, count_of, counts, IsPlace}
use Rattle.milter_field_index.specs.Counted.{Counted}
use Rattle.milter_field_index.specs.Occurrence.{nth, shifted}
use Rattle.milter_field_index.proofs.Joins.{total}
use Rattle.milter_field_index.proofs.Counts.{row-sum, row-few, row-length, row-at}
use Rattle.milter_field_index.proofs.Occurrences.{nth-blocks, nth-below, nth_past, shifted-some, shifted-none}
use Rattle.milter_field_index.specs.Symbols.{HasOnly}
use Rattle.milter_field_index.proofs.OneSymbol.{nth-only}
use Rattle.milter_field_index.proofs.ranked.Ranked.select.Goals as goal

-- the occurrence in the whole by the one in its block
by_block : (rows bs : List (List ℕ)) (row : List ℕ) (s number t o : ℕ) → Counted rows bs → s < length rows
    → row ≡ at rows s → IsPlace row t o number → o < get_or row t 0
    → nth (λ x. x == s) number (joined bs) ≡ shifted (sum (take t (lengths bs))) (nth (λ x. x == s) o (at bs t))
by_block rows bs row s number t o counted low e place inside =
    let within : t < length bs = omega (arith, place.within, ap length e, row-length rows bs s counted low) in
    let adds_up : sum (take t (counts s bs)) + o ≡ number =
    subst (λ (r : List ℕ). sum (take t r) + o ≡ number) (e ∙ counted.each s low) place.adds_up in
    let few : o < count_of s (at bs t) =
    omega (arith, inside, ap (λ r. get_or r t 0) e, row-at rows bs s t counted low within) in
    nth-blocks s bs t o number within adds_up few

pub returns-then-symbol-len : goal.returns-then-symbol-len
returns-then-symbol-len c =
    let bs : List (List ℕ) = c.self.inside.blocks in
    let past : length c.self.inside.rows ≤ c.args.symbol = omega (arith, c.if-symbol-len.true, c.len.ensures) in
    let none = c.self.invariant.counted.others c.args.symbol past in
    sym (nth_past (λ (x : ℕ). x == c.args.symbol) (joined bs) c.args.number (omega (arith, none)))
    ∙ ap (λ l. nth (λ x. x == c.args.symbol) c.args.number l) c.self.view_is

pub returns-then-are_all : goal.returns-then-are_all
returns-then-are_all c =
    let xs : List ℕ = c.args.self.now in
    let s : ℕ = c.args.symbol in
    let number : ℕ = c.args.number in
    let only : HasOnly s xs = subst (HasOnly s) c.self.view_is
    (c.self.invariant.known s (sym c.are_all.ensures ∙ c.if-are_all.true)) in
    let len : c.self.inside.len ≡ length xs = c.self.invariant.whole ∙ ap length c.self.view_is in
    elim (cases_lt number c.self.inside.len) [
      | inl low ↦
          c.then_some.ensures ∙ ap (λ (b : Bool). then_some b number) (lt-ltb number c.self.inside.len low)
          ∙ sym (nth-only s xs number only (omega (arith, low, len)))
      | inr past ↦
          c.then_some.ensures ∙ ap (λ (b : Bool). then_some b number) (le-ltb number c.self.inside.len past)
          ∙ sym (nth_past (λ x. x == s) xs number (omega (arith, past, len, count_by-le-length (λ (x : ℕ). x == s) xs)))
    ]

pub find-requires : goal.find-requires
find-requires c =
    let low : c.args.symbol < length c.self.inside.rows = omega (arith, c.if-symbol-len.false, c.len.ensures) in
    omega (
      arith,
      ap sum c.row.ensures,
      row-few c.self.inside.rows c.self.inside.blocks c.args.symbol
          c.self.invariant.counted low,
      c.lens-lens.ensures.few,
    )

pub returns-in_err-place : goal.returns-in_err-place
returns-in_err-place c =
    let bs : List (List ℕ) = c.self.inside.blocks in
    let low : c.args.symbol < length c.self.inside.rows = omega (arith, c.if-symbol-len.false, c.len.ensures) in
    let past : sum c.row.result.now ≤ c.args.number = Prim.grind (arith, c.in_err-place.ensures.exact) in
    let all = ap sum c.row.ensures ∙ row-sum c.self.inside.rows bs c.args.symbol c.self.invariant.counted low in
    c.from_residual.ensures
    ∙ sym (nth_past (λ (x : ℕ). x == c.args.symbol) (joined bs) c.args.number (omega (arith, past, all)))
    ∙ ap (λ l. nth (λ x. x == c.args.symbol) c.args.number l) c.self.view_is

pub returns-in_err-index : goal.returns-in_err-index
returns-in_err-index c =
    let bs : List (List ℕ) = c.self.inside.blocks in
    let s : ℕ = c.args.symbol in
    let t : ℕ = c.in_ok-place.place.block in
    let o : ℕ = c.in_ok-place.place.offset in
    let low : s < length c.self.inside.rows = omega (arith, c.if-symbol-len.false, c.len.ensures) in
    let whole =
    by_block c.self.inside.rows bs c.row.result.now s c.args.number t o c.self.invariant.counted low c.row.ensures
    c.in_ok-place.ensures.found c.in_ok-place.ensures.inside in
    let inner : None ≡ nth (λ x. x == s) o (at bs t) = c.in_err-index.ensures
    ∙ ap (λ l. nth (λ x. x == s) o l) c.block.ensures in
    let start : ℕ = sum (take t (lengths bs)) in
    c.from_residual-in_err-index.ensures ∙ sym (shifted-none start) ∙ ap (shifted start) inner ∙ sym whole
    ∙ ap (λ l. nth (λ x. x == s) c.args.number l) c.self.view_is

pub sum_of-requires : goal.sum_of-requires
sum_of-requires c =
    omega (
      arith,
      sum_by-take-le (λ x. x) c.lens-lens.result.now c.in_ok-place.place.block,
      ap sum
          c.lens-lens.ensures.lens,
      total c.self.inside.blocks,
      c.lens-lens.ensures.few,
    )

pub overflow_add-result : goal.overflow_add-result
overflow_add-result c =
    let bs : List (List ℕ) = c.self.inside.blocks in
    let s : ℕ = c.args.symbol in
    let o : ℕ = c.in_ok-place.place.offset in
    let index : ℕ = c.in_ok-index.index in
    let inner : Some index ≡ nth (λ x. x == s) o c.block.result.now = c.in_ok-index.ensures in
    let P : Option ℕ → Type 0 = λ r. IfSome r (λ i. i < length c.block.result.now) in
    let below : index < length c.block.result.now =
    subst P (sym inner) (nth-below (λ (x : ℕ). x == s) o c.block.result.now) in
    omega (
      arith,
      below,
      c.block.type_inv.0,
      c.block.type_inv.1,
      c.sum_of.ensures,
      sum_by-take-le (λ x. x)
          c.lens-lens.result.now c.in_ok-place.place.block,
      ap sum c.lens-lens.ensures.lens,
      total bs,
      c.lens-lens.ensures.few,
    )

pub returns : goal.returns
returns c =
    let bs : List (List ℕ) = c.self.inside.blocks in
    let s : ℕ = c.args.symbol in
    let t : ℕ = c.in_ok-place.place.block in
    let o : ℕ = c.in_ok-place.place.offset in
    let index : ℕ = c.in_ok-index.index in
    let low : s < length c.self.inside.rows = omega (arith, c.if-symbol-len.false, c.len.ensures) in
    let whole =
    by_block c.self.inside.rows bs c.row.result.now s c.args.number t o c.self.invariant.counted low c.row.ensures
    c.in_ok-place.ensures.found c.in_ok-place.ensures.inside in
    let inner : Some index ≡ nth (λ x. x == s) o (at bs t) = c.in_ok-index.ensures
    ∙ ap (λ l. nth (λ x. x == s) o l) c.block.ensures in
    let start : ℕ = sum (take t (lengths bs)) in
    let first : c.sum_of.result ≡ start = c.sum_of.ensures ∙ ap (λ l. sum (take t l)) c.lens-lens.ensures.lens in
    ap (λ n. Some (n + index)) first ∙ sym (shifted-some start index) ∙ ap (shifted start) inner ∙ sym whole
    ∙ ap (λ l. nth (λ x. x == s) c.args.number l) c.self.view_is
