use Rattle.std.proofs.Common.{◌≤◌, ℕ, List, Some, get_or, ap, sym, ◌∙◌, arith, length}
use Rattle.std.specs.List.{slice_get}
use Rattle.milter_field_index.specs.Blocks.{joined}
use Rattle.milter_field_index.proofs.Joins.{read-in, past-blocks}
use Rattle.milter_field_index.proofs.sequence.Sequence.get.Goals as goal

pub returns-in-Some : goal.returns-in-Some
returns-in-Some c =
    let bs : List (List ℕ) = c.self.inside.blocks in
    let read =
    read-in bs c.in-Some.place.block c.in-Some.place.offset c.args.index c.in-Some.ensures.found
    c.in-Some.ensures.inside in
    ap (λ l. Some (get_or l c.in-Some.place.offset 0)) c.block.ensures ∙ sym read
    ∙ ap (λ l. slice_get l c.args.index) c.self.view_is

pub returns-in-None : goal.returns-in-None
returns-in-None c =
    let bs : List (List ℕ) = c.self.inside.blocks in
    let past : length (joined bs) ≤ c.args.index = Prim.grind (arith, c.in-None.ensures.exact) in
    sym (past-blocks bs c.args.index past) ∙ ap (λ l. slice_get l c.args.index) c.self.view_is
