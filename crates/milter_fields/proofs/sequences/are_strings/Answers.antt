use Rattle.std.proofs.Common.{sym}
use Rattle.std.proofs.lemmas.Bool.{eqb-true, eqb-false}
use Rattle.milter_fields.proofs.StringFields.{string_at-shorter}
use Rattle.milter_fields.proofs.SequenceLaws.{strings_in-first, strings_in-unended, strings_in-nil, is_some_step, is_some_none, is_some_end}
use Rattle.milter_fields.proofs.sequences.are_strings.Goals as goal

pub returns-in_default : goal.returns-in_default
returns-in_default c =
    let none = strings_in-unended c.loop-rest.rest.now (eqb-false _ _ (sym c.loop-rest-test.ensures)) (sym c.in_default.ensures) in
    sym (is_some_none _ _ none c.loop-rest.invariant)

pub loop-rest-smaller : goal.loop-rest-smaller
loop-rest-smaller c = string_at-shorter c.loop-rest.rest.now _ _ (sym c.in-Some.ensures)

pub loop-rest-preserved : goal.loop-rest-preserved
loop-rest-preserved c = is_some_step _ _ _ _ (strings_in-first c.loop-rest.rest.now _ _ (sym c.in-Some.ensures)) c.loop-rest.invariant

pub returns : goal.returns
returns c = sym (is_some_end _ _ _ (strings_in-nil c.loop-rest.rest.now (eqb-true _ _ (sym c.loop-rest-test.ensures))) c.loop-rest.invariant)
