use Rattle.std.proofs.Common.{◌≤◌, List, ℕ, Vec, Global, ap, arith, length}
use Rattle.std.proofs.lemmas.List.{length_push}
use Rattle.milter_field_index.proofs.Measures.{more-zeros}
use Rattle.milter_field_index.proofs.rows.Rows.grow.Goals as goal

pub loop-alloc-preserved : goal.loop-alloc-preserved
loop-alloc-preserved c =
    let rows : List (Vec ℕ Global) = c.loop-alloc.self-inside.rows.items in
    let start : List (Vec ℕ Global) = c.self.inside.rows.items in
    let longer : length start ≤ length c.push.new.self.items =
    omega (
      arith,
      c.loop-alloc.invariant.0,
      ap length c.in_ok-push.ensures.items,
      length_push rows
          c.in_ok-zeros.zeros,
    ) in (
      longer,
      more-zeros rows c.push.new.self.items start c.in_ok-zeros.zeros c.args.blocks c.loop-alloc.invariant.0
          c.loop-alloc.invariant.1 c.in_ok-push.ensures.items (c.in_ok-zeros.ensures.items_if_clones_equal (λ y e. e)),
      omega (
        arith,
        ap length c.in_ok-push.ensures.items,
        length_push rows c.in_ok-zeros.zeros,
        c.loop-alloc-test.true,
        c.len.ensures,
        c.ranges.symbol,
      ),
    )
