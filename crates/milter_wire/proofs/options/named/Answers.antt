use Rattle.std.proofs.Common.{◌≡◌, ◌∙◌, sym, lit<, false, nat_eq, codes, rules}
use Rattle.std.specs.Cmp.Lexicographic.{pointwise}
use Rattle.milter_wire.proofs.Names.{set_with-first, set_with-last, set_with-unknown, set_with-unknown_last}
use Rattle.milter_wire.proofs.options.named.Goals as goal

pub returns-in_err-from_name : goal.returns-in_err-from_name
returns-in_err-from_name g c = λ exact.
    let other : pointwise nat_eq c.args.text.now (codes "none") ≡ false = sym c.eq.ensures ∙ c.if-eq.false in
    let cut = c.in-Some.ensures.byte (lit< tt) (λ w o h. h) in
    rw (c.from_residual.ensures, other)
    (sym (c.loop-name.invariant.1 exact ∙ set_with-unknown _ _ c.loop-name.rest.now c.in-Some.name.now cut.2 cut.0 (c.in_err-from_name.ensures exact)))

pub loop-name-preserved : goal.loop-name-preserved
loop-name-preserved g c =
    let cut = c.in-Some.ensures.byte (lit< tt) (λ w o h. h) in (
      search rules,
      λ exact. rw (c.insert.ensures exact)
          (c.loop-name.invariant.1 exact ∙ set_with-first _ _ _ c.loop-name.rest.now c.in-Some.name.now _ cut.2 cut.0 cut.1 (c.in_ok-from_name.ensures exact)),
    )

pub returns-in_err-from_name-2 : goal.returns-in_err-from_name-2
returns-in_err-from_name-2 g c = λ exact.
    let other : pointwise nat_eq c.args.text.now (codes "none") ≡ false = sym c.eq.ensures ∙ c.if-eq.false in
    let whole = c.in_default.ensures.byte (lit< tt) (λ w o h. h) in
    rw (c.from_residual-in_err-from_name-2.ensures, other)
    (sym (c.loop-name.invariant.1 exact ∙ set_with-unknown_last _ _ c.loop-name.rest.now whole (c.in_err-from_name-2.ensures exact)))

pub returns : goal.returns
returns g c = λ exact.
    let other : pointwise nat_eq c.args.text.now (codes "none") ≡ false = sym c.eq.ensures ∙ c.if-eq.false in
    let whole = c.in_default.ensures.byte (lit< tt) (λ w o h. h) in
    rw (c.insert-2.ensures exact, other)
    (sym (c.loop-name.invariant.1 exact ∙ set_with-last _ _ _ c.loop-name.rest.now whole (c.in_ok-from_name-2.ensures exact)))
