use Rattle.std.proofs.Common.{ℕ, List, length, ap, ◌∙◌, arith}
use Rattle.std.specs.List.{insert}
use Rattle.std.proofs.lemmas.List.Edits.{length-insert}
use Rattle.milter_field_index.specs.Blocks.{joined}
use Rattle.milter_field_index.proofs.Joins.{inserted-in}
use Rattle.milter_field_index.proofs.sequence.Sequence.insert.Goals as goal

pub returns-clause-ok : goal.returns-clause-ok
returns-clause-ok c =
    let bs : List (List ℕ) = c.place_for.new.blocks in
    let t : ℕ = c.in_ok-place.place.block in
    let o : ℕ = c.in_ok-place.place.offset in
    let whole =
    inserted-in bs t o c.args.index c.args.number c.in_ok-place.ensures.found c.in_ok-place.ensures.inside in
    ap joined c.in_ok-insert.ensures.ok ∙ whole
    ∙ ap (λ l. insert l c.args.index c.args.number) (c.in_ok-place.ensures.same ∙ c.self.view_is)

pub invariant_of-self-2 : goal.invariant_of-self-2
invariant_of-self-2 c =
    let bs : List (List ℕ) = c.place_for.new.blocks in
    let t : ℕ = c.in_ok-place.place.block in
    let o : ℕ = c.in_ok-place.place.offset in
    let i : ℕ = c.args.index in
    let n : ℕ = c.args.number in
    let after = ap joined c.in_ok-insert.ensures.ok
    ∙ inserted-in bs t o i n c.in_ok-place.ensures.found c.in_ok-place.ensures.inside in
    omega (
      arith,
      ap length after,
      length-insert (joined bs) i n,
      ap length c.in_ok-place.ensures.same,
      c.self.invariant,
      ap length c.self.view_is,
      c.requires.within,
    )
