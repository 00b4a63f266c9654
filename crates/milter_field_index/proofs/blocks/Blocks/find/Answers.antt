use Rattle.std.proofs.Common.{◌≡◌, ap, arith, length, ◌∙◌}
use Rattle.std.specs.List.{sum}
use Rattle.milter_field_index.specs.Blocks.{joined, lengths}
use Rattle.milter_field_index.proofs.Joins.{total}
use Rattle.milter_field_index.proofs.blocks.Blocks.find.Goals as goal

pub returns-clause-exact : goal.returns-clause-exact
returns-clause-exact c =
    let whole : sum c.as_slice.result.now ≡ length (joined c.args.self.now) = ap sum c.as_slice.ensures.value
    ∙ ap sum c.self.invariant.each ∙ ap (λ y. sum (lengths y)) c.self.view_is ∙ total c.args.self.now in (
      λ some. omega (arith, whole, c.find.ensures.exact.0 some),
      λ below. c.find.ensures.exact.1
          (omega (arith, whole, below)),
    )
