use Rattle.std.proofs.Common.{◌≤◌, ℕ, List, Some, ap, sym, ◌∙◌, arith, length}
use Rattle.std.specs.List.{remove, slice_get}
use Rattle.std.proofs.lemmas.List.Edits.{length-remove}
use Rattle.milter_field_index.specs.Blocks.{joined}
use Rattle.milter_field_index.proofs.Joins.{place_below, removed-in, read-in, past-blocks}
use Rattle.milter_field_index.proofs.sequence.Sequence.remove.Goals as goal

pub returns-in-Some-clause-value : goal.returns-in-Some-clause-value
returns-in-Some-clause-value c =
    let bs : List (List ℕ) = c.self.inside.blocks in
    let read =
    read-in bs c.in-Some.place.block c.in-Some.place.offset c.args.index c.in-Some.ensures.found
    c.in-Some.ensures.inside in
    ap Some c.remove.ensures.value ∙ sym read ∙ ap (λ l. slice_get l c.args.index) c.self.view_is

pub returns-in-Some-clause-rest : goal.returns-in-Some-clause-rest
returns-in-Some-clause-rest c =
    let bs : List (List ℕ) = c.self.inside.blocks in
    ap joined c.remove.ensures.rest
    ∙ removed-in bs c.in-Some.place.block c.in-Some.place.offset c.args.index c.in-Some.ensures.found
    c.in-Some.ensures.inside
    ∙ ap (λ l. remove l c.args.index) c.self.view_is

pub returns-in-None-clause-value : goal.returns-in-None-clause-value
returns-in-None-clause-value c =
    let bs : List (List ℕ) = c.self.inside.blocks in
    let past : length (joined bs) ≤ c.args.index = Prim.grind (arith, c.in-None.ensures.exact) in
    sym (past-blocks bs c.args.index past) ∙ ap (λ l. slice_get l c.args.index) c.self.view_is

pub invariant_of-self : goal.invariant_of-self
invariant_of-self c =
    let bs : List (List ℕ) = c.self.inside.blocks in
    let i : ℕ = c.args.index in
    let below =
    place_below bs c.in-Some.place.block c.in-Some.place.offset i c.in-Some.ensures.found c.in-Some.ensures.inside in
    let after = ap joined c.remove.ensures.rest
    ∙ removed-in bs c.in-Some.place.block c.in-Some.place.offset i c.in-Some.ensures.found c.in-Some.ensures.inside in
    omega (arith, ap length after, length-remove (joined bs) i below, c.self.invariant, below)
