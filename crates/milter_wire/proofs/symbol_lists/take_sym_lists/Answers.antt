use Rattle.std.proofs.Common.{sym}
use Rattle.std.proofs.lemmas.Bool.{eqb-true, eqb-false}
use Rattle.milter_fields.proofs.SequenceLaws.{prefix_step, prefix_none, prefix_end}
use Rattle.milter_wire.proofs.SymListLaws.{sym_list_at-shorter, sym_lists_in-first, sym_lists_in-unended, sym_lists_in-nil}
use Rattle.milter_wire.proofs.symbol_lists.take_sym_lists.Goals as goal

pub returns-in_default : goal.returns-in_default
returns-in_default c =
    let none = sym_lists_in-unended c.loop-rest.rest.now (eqb-false _ _ (sym c.loop-rest-test.ensures)) (sym c.in_default.ensures) in
    sym (prefix_none _ _ _ none c.loop-rest.invariant)

pub loop-rest-smaller : goal.loop-rest-smaller
loop-rest-smaller c = sym_list_at-shorter c.loop-rest.rest.now _ _ (sym c.in-Some.ensures)

pub loop-rest-preserved : goal.loop-rest-preserved
loop-rest-preserved c =
    rw (c.in_ok-push.ensures.items, c.in_ok-names.ensures) (prefix_step _ _ _ _ _ (sym_lists_in-first c.loop-rest.rest.now _ _ (sym c.in-Some.ensures)) c.loop-rest.invariant)

pub returns : goal.returns
returns c = rw c.new.ensures (sym (prefix_end _ _ _ (sym_lists_in-nil c.loop-rest.rest.now (eqb-true _ _ (sym c.loop-rest-test.ensures))) c.loop-rest.invariant))
