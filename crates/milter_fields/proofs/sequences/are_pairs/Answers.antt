use Rattle.std.proofs.Common.{sym, arith}
use Rattle.std.proofs.lemmas.Bool.{eqb-true, eqb-false}
use Rattle.milter_fields.proofs.StringFields.{string_at-shorter}
use Rattle.milter_fields.proofs.SequenceLaws.{pairs_in-first, pairs_in-unended, pairs_in-odd, pairs_in-nil, is_some_step, is_some_none, is_some_end}
use Rattle.milter_fields.proofs.sequences.are_pairs.Goals as goal

pub returns-in_default : goal.returns-in_default
returns-in_default c =
    let none = pairs_in-unended c.loop-rest.rest.now (eqb-false _ _ (sym c.loop-rest-test.ensures)) (sym c.in_default.ensures) in
    sym (is_some_none _ _ none c.loop-rest.invariant)

pub returns-in_default-take_string : goal.returns-in_default-take_string
returns-in_default-take_string c =
    let none = pairs_in-odd c.loop-rest.rest.now _ c.in-Some.middle.now (sym c.in-Some.ensures) (sym c.in_default-take_string.ensures) in
    sym (is_some_none _ _ none c.loop-rest.invariant)

pub loop-rest-smaller : goal.loop-rest-smaller
loop-rest-smaller c =
    let name = string_at-shorter c.loop-rest.rest.now _ _ (sym c.in-Some.ensures) in
    let value = string_at-shorter c.in-Some.middle.now _ _ (sym c.in-Some-take_string.ensures) in
    omega (arith, name, value)

pub loop-rest-preserved : goal.loop-rest-preserved
loop-rest-preserved c = is_some_step _ _ _ _ (pairs_in-first c.loop-rest.rest.now _ _ _ _ (sym c.in-Some.ensures) (sym c.in-Some-take_string.ensures)) c.loop-rest.invariant

pub returns : goal.returns
returns c = sym (is_some_end _ _ _ (pairs_in-nil c.loop-rest.rest.now (eqb-true _ _ (sym c.loop-rest-test.ensures))) c.loop-rest.invariant)
