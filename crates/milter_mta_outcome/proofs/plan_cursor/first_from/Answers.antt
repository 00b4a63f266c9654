use Rattle.std.proofs.Common.{List, None, Option, arith, rules, ◌≡◌, sym, ap, ◌∙◌, slice_get, option_map}
use Rattle.milter_wire.specs.declared.command.Command.{Command}
use Rattle.milter_wire.specs.Stages.{stage_of}
use Rattle.milter_mta_outcome.specs.OutgoingValue.{outgoing}
use Rattle.milter_mta_outcome.specs.PlanCursor.{steps_from}
use Rattle.milter_mta_outcome.proofs.StagesFound.{first_found, none_mapped}
use Rattle.milter_mta_outcome.proofs.NumberedCommands.{at_end, fewer_after, in_next}
use Rattle.milter_mta_outcome.proofs.plan_cursor.first_from.Goals as goal

pub loop-stage-smaller : goal.loop-stage-smaller
loop-stage-smaller c = fewer_after c.loop-stage.at.stage c.in_ok-stage.stage (sym c.in_ok-stage.was ∙ c.stage_after.ensures)

pub loop-stage-preserved : goal.loop-stage-preserved
loop-stage-preserved c = (
  sym (in_next (outgoing c.args.of.now) c.loop-stage.at.stage c.in_ok-stage.stage c.loop-stage.at.step
      (none_mapped _ (sym c.in_default.is ∙ c.stage_at.ensures))
      (sym c.in_ok-stage.was ∙ c.stage_after.ensures))
      ∙ c.loop-stage.invariant.0,
  omega arith,
)

pub returns-in-Some-clause-there : goal.returns-in-Some-clause-there
returns-in-Some-clause-there c =
    first_found (outgoing c.args.of.now) c.loop-stage.at.stage c.loop-stage.at.step c.in-Some.stage (sym c.in-Some.is ∙ c.stage_at.ensures)
    ∙ ap (λ (left : List Command). slice_get left 0) c.loop-stage.invariant.0

pub returns-in-Some-clause-stage : goal.returns-in-Some-clause-stage
returns-in-Some-clause-stage c =
    let found = sym c.in-Some.is ∙ c.stage_at.ensures in
    found
    ∙ ap (λ (command : Option Command). option_map stage_of command)
    (first_found (outgoing c.args.of.now) c.loop-stage.at.stage c.loop-stage.at.step c.in-Some.stage found
    ∙ ap (λ (left : List Command). slice_get left 0) c.loop-stage.invariant.0)

pub returns-in_err-stage-clause-stage : goal.returns-in_err-stage-clause-stage
returns-in_err-stage-clause-stage c =
    let found = sym c.in_default.is ∙ c.stage_at.ensures in
    let none : None ≡ option_map stage_of (slice_get (steps_from (outgoing c.args.of.now) c.args.cursor.stage c.args.cursor.step) 0) =
    found
    ∙ ap (λ (command : Option Command). option_map stage_of command)
    (at_end (outgoing c.args.of.now) c.loop-stage.at.stage c.loop-stage.at.step (none_mapped _ found)
    (sym c.in_err-stage.was ∙ c.stage_after.ensures)
    ∙ ap (λ (left : List Command). slice_get left 0) c.loop-stage.invariant.0) in
    search rules
