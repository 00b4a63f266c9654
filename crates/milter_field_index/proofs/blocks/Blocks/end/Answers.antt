use Rattle.std.proofs.Common.{◌-◌, ℕ, List, subst, arith}
use Rattle.milter_field_index.specs.Blocks.{Measured}
use Rattle.milter_field_index.proofs.Measures.{few-joined, last-place}
use Rattle.milter_field_index.proofs.blocks.Blocks.end.Goals as goal

pub returns-clause-found : goal.returns-clause-found
returns-clause-found c = last-place c.self.inside.lens.items c.args.self.now (c.len-block.result - 1) c.index.result.now
    (subst (λ (y : List (List ℕ)). Measured c.self.inside.lens.items y) c.self.view_is c.self.invariant)
    (omega (arith, c.len-block.ensures, c.self.inside.lens.ok, c.self.invariant.some)) c.index.ensures

pub returns-clause-few : goal.returns-clause-few
returns-clause-few c = few-joined c.self.inside.lens.items c.args.self.now
    (subst (λ (y : List (List ℕ)). Measured c.self.inside.lens.items y) c.self.view_is c.self.invariant)
