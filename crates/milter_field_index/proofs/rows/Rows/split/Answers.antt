use Rattle.std.proofs.Common.{◌≡◌, ◌<◌, ℕ, List, [], ◌∷◌, ◌++◌, Vec, Global, length, get_or, ap, ◌∙◌, arith, below_more}
use Rattle.std.proofs.lemmas.List.{length-map, length_push, map_push, get_or_append_left, get_or_push}
use Rattle.milter_field_index.specs.Blocks.{at, count_of, halved}
use Rattle.milter_field_index.proofs.Measures.{contents, read-at}
use Rattle.milter_field_index.proofs.rows.Rows.split.Goals as goal

pub loop-symbol-init : goal.loop-symbol-init
loop-symbol-init c = (ap length c.in_ok-rows.ensures.items, λ symbol h. absurd (omega (arith, h)))

pub offset_bounds-row-block : goal.offset_bounds-row-block
offset_bounds-row-block c =
    let s : ℕ = c.loop-symbol.symbol in
    let inside : s < length c.args.self.now =
    omega (
      arith,
      c.loop-symbol-test.true,
      c.len-symbol-end.ensures,
      ap length c.self.view_is,
      length-map c.self.inside.rows.items
          (λ (v : Vec ℕ Global). v.items),
    ) in
    let row =
    c.as_slice-row.ensures.value ∙ read-at c.self.inside.rows.items c.args.self.now s c.index.result.now
    c.self.view_is inside c.index.ensures in
    omega (arith, ap length row, c.requires.within s inside)

pub bounds-row-block : goal.bounds-row-block
bounds-row-block c =
    let s : ℕ = c.loop-symbol.symbol in
    let inside : s < length c.args.self.now =
    omega (
      arith,
      c.loop-symbol-test.true,
      c.len-symbol-end.ensures,
      ap length c.self.view_is,
      length-map c.self.inside.rows.items
          (λ (v : Vec ℕ Global). v.items),
    ) in
    let row =
    c.as_slice-row.ensures.value ∙ read-at c.self.inside.rows.items c.args.self.now s c.index.result.now
    c.self.view_is inside c.index.ensures in
    omega (arith, ap length row, c.requires.within s inside)

pub counts_in-first-requires-clause-total : goal.counts_in-first-requires-clause-total
counts_in-first-requires-clause-total c =
    let s : ℕ = c.loop-symbol.symbol in
    let inside : s < length c.args.self.now =
    omega (
      arith,
      c.loop-symbol-test.true,
      c.len-symbol-end.ensures,
      ap length c.self.view_is,
      length-map c.self.inside.rows.items
          (λ (v : Vec ℕ Global). v.items),
    ) in
    let row =
    c.as_slice-row.ensures.value ∙ read-at c.self.inside.rows.items c.args.self.now s c.index.result.now
    c.self.view_is inside c.index.ensures in
    ap (λ l. get_or l c.args.block 0) row ∙ c.requires.total s inside

pub split_row-requires : goal.split_row-requires
split_row-requires c =
    let s : ℕ = c.loop-symbol.symbol in
    let len = ap length c.self.view_is in
    let inside : s < length c.args.self.now =
    omega (
      arith,
      c.loop-symbol-test.true,
      c.len-symbol-end.ensures,
      len,
      length-map c.self.inside.rows.items
          (λ (v : Vec ℕ Global). v.items),
    ) in
    let row =
    c.as_slice-row.ensures.value ∙ read-at c.self.inside.rows.items c.args.self.now s c.index.result.now
    c.self.view_is inside c.index.ensures in
    omega (arith, ap length row, c.requires.within s inside)

pub loop-symbol-preserved : goal.loop-symbol-preserved
loop-symbol-preserved c =
    let s : ℕ = c.loop-symbol.symbol in
    let rows : List (Vec ℕ Global) = c.loop-symbol.rows.items in
    let v : Vec ℕ Global = c.in_ok-split_row.field-0 in
    let len = ap length c.self.view_is in
    let inside : s < length c.args.self.now =
    omega (
      arith,
      c.loop-symbol-test.true,
      c.len-symbol-end.ensures,
      len,
      length-map c.self.inside.rows.items
          (λ (r : Vec ℕ Global). r.items),
    ) in
    let row =
    c.as_slice-row.ensures.value ∙ read-at c.self.inside.rows.items c.args.self.now s c.index.result.now
    c.self.view_is inside c.index.ensures in
    let next : contents c.push.new.self.items ≡ contents rows ++ v.items ∷ [] =
    ap contents c.in_ok-push.ensures.items ∙ map_push (λ (r : Vec ℕ Global). r.items) rows v in
    let here : v.items ≡ halved c.args.block (count_of s c.args.low.now) (count_of s c.args.high.now)
    (at c.args.self.now s) =
    c.in_ok-split_row.ensures
    ∙ ap (λ n. halved c.args.block n c.counts_in-first.result.1 c.as_slice-row.result.now) c.counts_in-first.ensures.low
    ∙ ap (λ n. halved c.args.block (count_of s c.args.low.now) n c.as_slice-row.result.now) c.counts_in-first.ensures.high
    ∙ ap (λ l. halved c.args.block (count_of s c.args.low.now) (count_of s c.args.high.now) l) row in
    let so_far : length (contents rows) ≡ s = length-map rows (λ (r : Vec ℕ Global). r.items)
    ∙ c.loop-symbol.invariant.0 in
    let P = λ (k : ℕ). at (contents c.push.new.self.items) k ≡ halved c.args.block (count_of k c.args.low.now)
    (count_of k c.args.high.now) (at c.args.self.now k) in (
      omega (arith, ap length c.in_ok-push.ensures.items, length_push rows v, c.loop-symbol.invariant.0),
      below_more P s
          (λ k h. let low : k < length (contents rows) = omega (arith, h, so_far) in ap (λ l. at l k) next
          ∙ get_or_append_left (contents rows) (v.items ∷ []) [] k low ∙ c.loop-symbol.invariant.1 k h)
          (ap (λ l. at l s) next ∙ get_or_push (contents rows) v.items [] s so_far ∙ here),
    )

pub invariant_of-result : goal.invariant_of-result
invariant_of-result c = omega (
  arith,
  c.loop-symbol.invariant.0,
  c.loop-symbol.auto.symbol-end,
  c.len-symbol-end.ensures,
  c.self.invariant,
)

pub returns-clause-len : goal.returns-clause-len
returns-clause-len c =
    length-map c.loop-symbol.rows.items (λ (r : Vec ℕ Global). r.items)
    ∙ omega (
      arith,
      c.loop-symbol.invariant.0,
      c.loop-symbol.auto.symbol-end,
      c.loop-symbol-test.false,
      c.len-symbol-end.ensures,
      ap length c.self.view_is,
      length-map c.self.inside.rows.items
          (λ (r : Vec ℕ Global). r.items),
    )

pub returns-clause-each : goal.returns-clause-each
returns-clause-each c =
    λ symbol h.
    c.loop-symbol.invariant.1 symbol (omega (
      arith,
      h,
      c.loop-symbol.auto.symbol-end,
      c.loop-symbol-test.false,
      c.len-symbol-end.ensures,
      ap length
          c.self.view_is,
      length-map c.self.inside.rows.items (λ (r : Vec ℕ Global). r.items),
    ))
