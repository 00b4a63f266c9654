use Rattle.std.proofs.Common.{◌∷◌, ap, sym, ◌∙◌}
use Rattle.milter_text.specs.WordValues.{keyword}
use Rattle.milter_wire.specs.Stages.{name_of}
use Rattle.milter_rules.proofs.LineForms.{stage_words}
use Rattle.milter_rules.proofs.rule_line.rule_in.Goals as goal

pub returns-clause-found : goal.returns-clause-found
returns-clause-found c =
    let stage = c.in-Some.stage in
    let begun = stage_words c.args.words.now c.in-Some.rest.now stage (sym (rw c.in-Some.is at c.stage_in.ensures)) in
    let read = rw c.in-Some-2.is at c.in_ok-conditions.ensures.found in (
      record {
        action = c.in-Some-2.action.now;
        in_order = begun ∙ ap (λ words. keyword (name_of stage) ∷ words) read;
        action_is = c.in_ok-action.ensures.found.0;
        may = c.in_ok-action.ensures.found.1;
      },
      (
        sym (rw c.as_slice.ensures at c.are_conditions.ensures) ∙ c.if-not-are_conditions.false,
        c.in_ok-action.ensures.form,
      ),
    )
