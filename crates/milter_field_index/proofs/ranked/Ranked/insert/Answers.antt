use Rattle.std.proofs.Common.{◌≡◌, ℕ, List, length, sym, subst, ◌∙◌, arith}
use Rattle.std.specs.List.{insert}
use Rattle.milter_field_index.specs.Symbols.{HasOnly}
use Rattle.milter_field_index.proofs.OneSymbol.{insert-only}
use Rattle.milter_field_index.proofs.Results.{on_ok_then}
use Rattle.milter_field_index.proofs.ranked.Ranked.insert.Goals as goal

pub returns-then-are_all-clause-ok : goal.returns-then-are_all-clause-ok
returns-then-are_all-clause-ok c =
    let xs : List ℕ = c.args.self.now in
    let s : ℕ = c.args.symbol in
    let only : HasOnly s xs = subst (HasOnly s) c.self.view_is
    (c.self.invariant.known s (sym c.are_all.ensures ∙ c.if-are_all.true)) in
    on_ok_then c.push.result (c.push.new.self ≡ insert xs (length xs) s) (c.push.new.self ≡ insert xs c.args.index s)
    c.push.ensures.ok (λ e. e ∙ insert-only s xs (length xs) c.args.index only (omega arith) c.requires.within)
