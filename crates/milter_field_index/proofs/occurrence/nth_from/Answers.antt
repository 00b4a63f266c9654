use Rattle.std.proofs.Common.{◌≡◌, ◌==◌, ◌<◌, ℕ, true, false, get_or, sym, ◌∙◌, ap, arith, drop}
use Rattle.std.proofs.lemmas.List.{drop_all}
use Rattle.milter_field_index.specs.Occurrence.{nth, shifted}
use Rattle.milter_field_index.proofs.Occurrences.{nth_here, nth_more-same, nth_more-other, shifted-none}
use Rattle.milter_field_index.proofs.occurrence.nth_from.Goals as goal
use Rattle.milter_field_index.proofs.occurrence.nth_from.Goals.{then-symbols-index+else-left-eq0, else-symbols-index}

pub returns-then-left-eq0 : goal.returns-then-left-eq0
returns-then-left-eq0 c =
    let test = λ (x : ℕ). x == c.args.symbol in
    let i : ℕ = c.loop-index.index in
    let e : test (get_or c.args.symbols.now i 0) ≡ true = Prim.grind (arith, c.if-symbols-index.true) in
    sym (sym c.loop-index.invariant ∙ nth_here test c.args.symbols.now i c.loop-index.left 0 c.loop-index-test.true e
    c.if-left-eq0.true)

pub loop-index-preserved : goal.loop-index-preserved
loop-index-preserved c =
    let test = λ (x : ℕ). x == c.args.symbol in
    let i : ℕ = c.loop-index.index in
    elim c.if-symbols-index.branch [
      | then-symbols-index+else-left-eq0 w ↦
          let e : test (get_or c.args.symbols.now i 0) ≡ true = Prim.grind (arith, w.if-symbols-index.true) in
          let some : 0 < c.loop-index.left = omega (arith, w.if-left-eq0.false) in
          rw w.left-is (sym (nth_more-same test c.args.symbols.now i c.loop-index.left 0 c.loop-index-test.true e
          some) ∙ c.loop-index.invariant)
      | else-symbols-index w ↦
          let e : test (get_or c.args.symbols.now i 0) ≡ false = Prim.grind (arith, w.if-symbols-index.false) in
          rw w.left-is (sym (nth_more-other test c.args.symbols.now i c.loop-index.left 0 c.loop-index-test.true e)
          ∙ c.loop-index.invariant)
    ]

pub returns : goal.returns
returns c =
    let test = λ (x : ℕ). x == c.args.symbol in
    let i : ℕ = c.loop-index.index in
    let rest : drop i c.args.symbols.now ≡ _ = drop_all i c.args.symbols.now c.loop-index-test.false in
    sym (sym c.loop-index.invariant ∙ ap (λ l. shifted i (nth test c.loop-index.left l)) rest ∙ shifted-none i)
