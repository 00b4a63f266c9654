use Rattle.std.proofs.Common.{◌≡◌, ℕ, List, length, ap, ◌∙◌, arith}
use Rattle.std.specs.List.{insert}
use Rattle.milter_field_index.specs.Blocks.{joined}
use Rattle.milter_field_index.proofs.Joins.{inserted-in}
use Rattle.milter_field_index.proofs.Ranks.{counted-rows, ranked-inserted, ranked-same}
use Rattle.milter_field_index.proofs.ranked.Ranked.push.Goals as goal

pub invariant_of-self : goal.invariant_of-self
invariant_of-self c = record {
  counted = counted-rows c.self.inside.rows c.grow.new.self c.self.inside.blocks c.lens.result.now
      c.self.invariant.counted c.lens.ensures.lens c.grow.ensures.zeros;
  whole = c.self.invariant.whole;
  known = c.self.invariant.known;
}

pub place_at_end-requires : goal.place_at_end-requires
place_at_end-requires c = record {
  counted = counted-rows c.self.inside.rows c.grow.new.self c.self.inside.blocks c.lens.result.now
      c.self.invariant.counted c.lens.ensures.lens c.grow.ensures.zeros;
}

pub invariant_of-self-in_err-place : goal.invariant_of-self-in_err-place
invariant_of-self-in_err-place c = ranked-same c.self.inside.symbols c.self.inside.len c.self.inside.blocks
    c.place_at_end.new.rows c.place_at_end.new.blocks c.self.invariant.known c.self.invariant.whole c.place_at_end.ensures.counted
    c.place_at_end.ensures.same

pub invariant_of-self-in_err-put : goal.invariant_of-self-in_err-put
invariant_of-self-in_err-put c = ranked-same c.self.inside.symbols c.self.inside.len c.self.inside.blocks c.put.new.rows
    c.put.new.blocks c.self.invariant.known c.self.invariant.whole c.put.ensures.counted
    (ap joined c.in_err-put.ensures.err ∙ c.place_at_end.ensures.same)

pub invariant_of-self-2 : goal.invariant_of-self-2
invariant_of-self-2 c =
    let bs : List (List ℕ) = c.place_at_end.new.blocks in
    let xs : List ℕ = joined c.self.inside.blocks in
    let whole : joined c.put.new.blocks ≡ insert xs (length xs) c.args.symbol = ap joined c.in_ok-put.ensures.ok
    ∙ inserted-in bs c.in_ok-place.place.block c.in_ok-place.place.offset (length (joined bs)) c.args.symbol
    c.in_ok-place.ensures.found c.in_ok-place.ensures.inside
    ∙ ap (λ l. insert l (length l) c.args.symbol) c.in_ok-place.ensures.same in
    ranked-inserted c.self.inside.symbols c.with.result c.self.inside.len c.put.new.rows c.put.new.blocks xs (length xs)
    c.args.symbol c.self.invariant.known c.self.invariant.whole (omega arith) c.put.ensures.counted whole c.with.ensures

pub returns-clause-ok : goal.returns-clause-ok
returns-clause-ok c =
    let bs : List (List ℕ) = c.place_at_end.new.blocks in
    let whole =
    inserted-in bs c.in_ok-place.place.block c.in_ok-place.place.offset (length (joined bs)) c.args.symbol
    c.in_ok-place.ensures.found c.in_ok-place.ensures.inside in
    ap joined c.in_ok-put.ensures.ok ∙ whole ∙ ap (λ l. insert l (length l) c.args.symbol)
    (c.in_ok-place.ensures.same ∙ c.self.view_is)
