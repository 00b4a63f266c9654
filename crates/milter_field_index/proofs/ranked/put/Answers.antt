use Rattle.std.proofs.Common.{◌≡◌, ◌+◌, ◌<◌, ℕ, List, length, get_or, set, sym, ap, subst, ◌∙◌, arith}
use Rattle.std.proofs.lemmas.List.Sums.{get_or-le-sum_by}
use Rattle.milter_field_index.specs.Blocks.{at}
use Rattle.milter_field_index.specs.Counted.{Counted}
use Rattle.milter_field_index.proofs.Counts.{counted-insert, row-few, row-length}
use Rattle.milter_field_index.proofs.ranked.put.Goals as goal

pub overflow_add-count : goal.overflow_add-count
overflow_add-count c =
    let rows : List (List ℕ) = c.args.rows.now in
    let bs : List (List ℕ) = c.args.blocks.now in
    let s : ℕ = c.args.symbol in
    let t : ℕ = c.args.place.block in
    let inside : t < length (at rows s) =
    omega (arith, row-length rows bs s c.requires.counted c.requires.row, c.requires.block) in
    omega (
      arith,
      get_or-le-sum_by (λ x. x) (at rows s) t 0 inside,
      ap (λ l. get_or l t 0) c.row.ensures,
      row-few rows bs s c.requires.counted c.requires.row,
      c.requires.few,
    )

pub returns-clause-counted : goal.returns-clause-counted
returns-clause-counted c =
    let rows : List (List ℕ) = c.args.rows.now in
    let bs : List (List ℕ) = c.args.blocks.now in
    let s : ℕ = c.args.symbol in
    let t : ℕ = c.args.place.block in
    let after = counted-insert rows bs s t c.args.place.offset c.requires.counted c.requires.block c.requires.row in
    let new : c.set.new.self ≡ set rows s (set (at rows s) t (get_or (at rows s) t 0 + 1)) = c.set.ensures
    ∙ ap (λ l. set rows s (set (at rows s) t (get_or l t 0 + 1))) c.row.ensures in
    subst (λ (r : List (List ℕ)). Counted r c.insert.new.self) (sym new)
    (subst (λ (b : List (List ℕ)). Counted (set rows s (set (at rows s) t (get_or (at rows s) t 0 + 1))) b)
    (sym c.in_ok-insert.ensures.ok) after)
