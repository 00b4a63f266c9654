use Rattle.std.proofs.Common.{◌≡◌, ℕ, List, length, ap, subst, ◌∙◌}
use Rattle.std.proofs.lemmas.List.{take-append-drop}
use Rattle.milter_field_index.specs.Blocks.{at, joined, lengths, IsPlace}
use Rattle.milter_field_index.proofs.Joins.{place_within, joined-halved}
use Rattle.milter_field_index.proofs.blocks.Blocks.place_at_end.Goals as goal

pub returns-clause-same : goal.returns-clause-same
returns-clause-same c =
    let bs : List (List ℕ) = c.args.self.now in
    let t : ℕ = c.end-place.result.block in
    let within = place_within bs t c.end-place.result.offset (length (joined bs)) c.end-place.ensures.found in
    ap joined c.in_ok-split.ensures.ok
    ∙ joined-halved bs t _ _ within (take-append-drop _ (at bs t))

pub returns-clause-found : goal.returns-clause-found
returns-clause-found c =
    let bs : List (List ℕ) = c.args.self.now in
    let t : ℕ = c.end-place.result.block in
    let within = place_within bs t c.end-place.result.offset (length (joined bs)) c.end-place.ensures.found in
    let same : joined c.split.new.self ≡ joined bs = ap joined c.in_ok-split.ensures.ok
    ∙ joined-halved bs t _ _ within (take-append-drop _ (at bs t)) in
    subst (λ n. IsPlace (lengths c.split.new.self) c.end.result.block c.end.result.offset n) (ap length same)
    c.end.ensures.found
