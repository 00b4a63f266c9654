use Rattle.std.proofs.Common.{◌≡◌, ℕ, List, length, ap, ◌∙◌, arith}
use Rattle.std.proofs.lemmas.List.{take-append-drop}
use Rattle.milter_field_index.specs.Blocks.{joined, at}
use Rattle.milter_field_index.proofs.Joins.{place_within, joined-halved}
use Rattle.milter_field_index.proofs.blocks.Blocks.place_for.Goals as goal

pub find_new-requires : goal.find_new-requires
find_new-requires c =
    let bs : List (List ℕ) = c.args.self.now in
    let t : ℕ = c.find_new-place.result.block in
    let within = place_within bs t c.find_new-place.result.offset c.args.index c.find_new-place.ensures.found in
    let same : joined c.split.new.self ≡ joined bs = ap joined c.in_ok-split.ensures.ok
    ∙ joined-halved bs t _ _ within (take-append-drop _ (at bs t)) in
    omega (arith, ap length same, c.requires)

pub returns-clause-same : goal.returns-clause-same
returns-clause-same c =
    let bs : List (List ℕ) = c.args.self.now in
    let t : ℕ = c.find_new-place.result.block in
    let within = place_within bs t c.find_new-place.result.offset c.args.index c.find_new-place.ensures.found in
    ap joined c.in_ok-split.ensures.ok
    ∙ joined-halved bs t _ _ within (take-append-drop _ (at bs t))
