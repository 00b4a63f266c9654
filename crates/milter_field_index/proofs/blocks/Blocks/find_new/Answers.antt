use Rattle.std.proofs.Common.{ap, arith, subst, List, ℕ}
use Rattle.std.specs.List.{sum}
use Rattle.milter_field_index.specs.Blocks.{lengths, Measured}
use Rattle.milter_field_index.proofs.Joins.{total}
use Rattle.milter_field_index.proofs.Measures.{few-joined}
use Rattle.milter_field_index.proofs.blocks.Blocks.find_new.Goals as goal

pub find_new-requires-clause-within : goal.find_new-requires-clause-within
find_new-requires-clause-within c =
    omega (
      arith,
      c.requires,
      ap sum c.as_slice.ensures.value,
      ap sum c.self.invariant.each,
      ap
          (λ y. sum (lengths y)) c.self.view_is,
      total c.args.self.now,
    )

pub returns-clause-few : goal.returns-clause-few
returns-clause-few c = few-joined c.self.inside.lens.items c.args.self.now
    (subst (λ (y : List (List ℕ)). Measured c.self.inside.lens.items y) c.self.view_is c.self.invariant)
