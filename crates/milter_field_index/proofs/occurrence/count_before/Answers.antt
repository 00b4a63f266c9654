use Rattle.std.proofs.Common.{◌≡◌, ℕ, ◌+◌, ◌-◌, ◌≤◌, ◌==◌, List, length, take, drop, cond, sym, ap, ◌∙◌, arith}
use Rattle.std.proofs.lemmas.List.{length-drop, take_all, take-append-drop}
use Rattle.std.proofs.lemmas.List.Sums.{sum_by-append}
use Rattle.milter_field_index.specs.Blocks.{count_of}
use Rattle.milter_field_index.proofs.occurrence.count_before.Goals as goal

-- those before an offset, and those from it on
both : (s o : ℕ) (xs : List ℕ)
    → count_of s xs ≡ count_of s (take o xs) + count_of s (take (length xs - o) (drop o xs))
both s o xs =
    let few : length (drop o xs) ≤ length xs - o = omega (arith, length-drop o xs) in
    ap (λ l. count_of s l) (sym (take-append-drop o xs))
    ∙ sum_by-append (λ (x : ℕ). cond (x == s) 1 0) (take o xs) (drop o xs)
    ∙ ap (λ l. count_of s (take o xs) + count_of s l) (sym (take_all (length xs - o) (drop o xs) few))

pub overflow_sub-result : goal.overflow_sub-result
overflow_sub-result c =
    omega (arith, c.requires.total, both c.args.symbol c.args.offset c.args.symbols.now, c.count_in-2.ensures)

pub returns : goal.returns
returns c = omega (arith, c.requires.total, both c.args.symbol c.args.offset c.args.symbols.now, c.count_in-2.ensures)
