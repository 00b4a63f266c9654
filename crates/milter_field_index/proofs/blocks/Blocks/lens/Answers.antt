use Rattle.std.proofs.Common.{ℕ, List, subst}
use Rattle.milter_field_index.specs.Blocks.{Measured}
use Rattle.milter_field_index.proofs.Measures.{few-joined}
use Rattle.milter_field_index.proofs.blocks.Blocks.lens.Goals as goal

pub returns-clause-few : goal.returns-clause-few
returns-clause-few c = few-joined c.self.inside.lens.items c.args.self.now
    (subst (λ (y : List (List ℕ)). Measured c.self.inside.lens.items y) c.self.view_is c.self.invariant)
