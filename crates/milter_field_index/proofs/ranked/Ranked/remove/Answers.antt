use Rattle.std.proofs.Common.{◌≡◌, ◌-◌, ◌<◌, ◌≤◌, ℕ, List, Some, length, get_or, set, sym, ap, subst, ◌∙◌, arith}
use Rattle.std.specs.List.{remove, slice_get}
use Rattle.milter_field_index.specs.Blocks.{joined, lengths, at, count_of, IsPlace}
use Rattle.milter_field_index.specs.Counted.{Counted}
use Rattle.milter_field_index.proofs.Joins.{place_within, place_below, removed-in, read-in, past-blocks}
use Rattle.milter_field_index.proofs.Counts.{has_row, row-at, row-length, count-read, counted-remove}
use Rattle.milter_field_index.proofs.Ranks.{ranked-removed}
use Rattle.milter_field_index.proofs.ranked.Ranked.remove.Goals as goal

-- the symbol that is removed has a row, with a count in the block
pub record Seen (rows bs : List (List ℕ)) (s t o : ℕ) : Type 0 where
  pub within : t < length bs
  pub low : s < length rows
  pub wide : t < length (at rows s)
  pub some : 1 ≤ get_or (at rows s) t 0

seen : (rows bs : List (List ℕ)) (s t o k : ℕ) → Counted rows bs → IsPlace (lengths bs) t o k → o < length (at bs t)
    → s ≡ get_or (at bs t) o 0 → Seen rows bs s t o
seen rows bs s t o k counted place inside is =
    let within = place_within bs t o k place in
    let low : s < length rows = omega (arith, has_row rows bs t o counted within inside, is) in
    let there : 1 ≤ count_of s (at bs t) =
    subst (λ (n : ℕ). 1 ≤ count_of n (at bs t)) (sym is) (count-read (at bs t) o inside) in
    record {
      within = within;
      low = low;
      wide = omega (arith, row-length rows bs s counted low, within);
      some = omega (arith, row-at rows bs s t counted low within, there);
    }

pub row-requires : goal.row-requires
row-requires c = (seen c.self.inside.rows c.self.inside.blocks c.remove-symbol.result c.in-Some.place.block
    c.in-Some.place.offset c.args.index c.self.invariant.counted c.in-Some.ensures.found c.in-Some.ensures.inside
    c.remove-symbol.ensures.value).low

pub offset_bounds-row-place : goal.offset_bounds-row-place
offset_bounds-row-place c =
    let s = seen c.self.inside.rows c.self.inside.blocks c.remove-symbol.result c.in-Some.place.block
    c.in-Some.place.offset c.args.index c.self.invariant.counted c.in-Some.ensures.found c.in-Some.ensures.inside
    c.remove-symbol.ensures.value in
    omega (arith, s.wide, ap length c.row.ensures, c.row.type_inv.1)

pub bounds-row-place : goal.bounds-row-place
bounds-row-place c =
    let s = seen c.self.inside.rows c.self.inside.blocks c.remove-symbol.result c.in-Some.place.block
    c.in-Some.place.offset c.args.index c.self.invariant.counted c.in-Some.ensures.found c.in-Some.ensures.inside
    c.remove-symbol.ensures.value in
    omega (arith, s.wide, ap length c.row.ensures)

pub overflow_sub-count : goal.overflow_sub-count
overflow_sub-count c =
    let s = seen c.self.inside.rows c.self.inside.blocks c.remove-symbol.result c.in-Some.place.block
    c.in-Some.place.offset c.args.index c.self.invariant.counted c.in-Some.ensures.found c.in-Some.ensures.inside
    c.remove-symbol.ensures.value in
    omega (arith, s.some, ap (λ l. get_or l c.in-Some.place.block 0) c.row.ensures)

pub set-requires-clause-symbol : goal.set-requires-clause-symbol
set-requires-clause-symbol c = (seen c.self.inside.rows c.self.inside.blocks c.remove-symbol.result
    c.in-Some.place.block c.in-Some.place.offset c.args.index c.self.invariant.counted c.in-Some.ensures.found
    c.in-Some.ensures.inside c.remove-symbol.ensures.value).low

pub set-requires-clause-block : goal.set-requires-clause-block
set-requires-clause-block c = (seen c.self.inside.rows c.self.inside.blocks c.remove-symbol.result
    c.in-Some.place.block c.in-Some.place.offset c.args.index c.self.invariant.counted c.in-Some.ensures.found
    c.in-Some.ensures.inside c.remove-symbol.ensures.value).wide

pub invariant_of-self : goal.invariant_of-self
invariant_of-self c =
    let rows : List (List ℕ) = c.self.inside.rows in
    let bs : List (List ℕ) = c.self.inside.blocks in
    let s : ℕ = c.remove-symbol.result in
    let t : ℕ = c.in-Some.place.block in
    let o : ℕ = c.in-Some.place.offset in
    let there =
    seen rows bs s t o c.args.index c.self.invariant.counted c.in-Some.ensures.found c.in-Some.ensures.inside
    c.remove-symbol.ensures.value in
    let after =
    counted-remove rows bs s t o c.self.invariant.counted there.within there.low c.in-Some.ensures.inside
    c.remove-symbol.ensures.value in
    let new : c.set.new.self ≡ set rows s (set (at rows s) t (get_or (at rows s) t 0 - 1)) = c.set.ensures
    ∙ ap (λ l. set rows s (set (at rows s) t (get_or l t 0 - 1))) c.row.ensures in
    let below = place_below bs t o c.args.index c.in-Some.ensures.found c.in-Some.ensures.inside in
    ranked-removed c.self.inside.symbols c.self.inside.len c.set.new.self c.remove-symbol.new.self (joined bs)
    c.args.index below c.self.invariant.known c.self.invariant.whole
    (subst (λ (r : List (List ℕ)). Counted r c.remove-symbol.new.self) (sym new)
    (subst (λ (b : List (List ℕ)). Counted (set rows s (set (at rows s) t (get_or (at rows s) t 0 - 1))) b)
    (sym c.remove-symbol.ensures.rest) after))
    (ap joined c.remove-symbol.ensures.rest
    ∙ removed-in bs t o c.args.index c.in-Some.ensures.found c.in-Some.ensures.inside)

pub returns-in-Some-clause-value : goal.returns-in-Some-clause-value
returns-in-Some-clause-value c =
    let bs : List (List ℕ) = c.self.inside.blocks in
    let read =
    read-in bs c.in-Some.place.block c.in-Some.place.offset c.args.index c.in-Some.ensures.found
    c.in-Some.ensures.inside in
    ap Some c.remove-symbol.ensures.value ∙ sym read ∙ ap (λ l. slice_get l c.args.index) c.self.view_is

pub returns-in-Some-clause-rest : goal.returns-in-Some-clause-rest
returns-in-Some-clause-rest c =
    let bs : List (List ℕ) = c.self.inside.blocks in
    ap joined c.remove-symbol.ensures.rest
    ∙ removed-in bs c.in-Some.place.block c.in-Some.place.offset c.args.index c.in-Some.ensures.found
    c.in-Some.ensures.inside
    ∙ ap (λ l. remove l c.args.index) c.self.view_is

pub returns-in-None-clause-value : goal.returns-in-None-clause-value
returns-in-None-clause-value c =
    let bs : List (List ℕ) = c.self.inside.blocks in
    let past : length (joined bs) ≤ c.args.index = Prim.grind (arith, c.in-None.ensures.exact) in
    sym (past-blocks bs c.args.index past) ∙ ap (λ l. slice_get l c.args.index) c.self.view_is
