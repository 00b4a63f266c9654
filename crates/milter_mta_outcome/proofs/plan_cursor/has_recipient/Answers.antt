use Rattle.std.proofs.Common.{Option, ap, ◌∙◌, ◌≡◌, is_some, slice_get}
use Rattle.std.specs.List.{list_any}
use Rattle.milter_wire.specs.declared.stage.Stage.{Stage}
use Rattle.milter_protocol.specs.Dialogue.{is_rcpt}
use Rattle.milter_mta_outcome.specs.OutgoingValue.{outgoing}
use Rattle.milter_mta_outcome.specs.PlanCursor.{steps_at, steps_from}
use Rattle.milter_mta_outcome.proofs.CursorSteps.{recipients_left}
use Rattle.milter_mta_outcome.proofs.StagesFound.{is_some_mapped}
use Rattle.milter_mta_outcome.proofs.plan_cursor.has_recipient.Goals as goal

pub returns : goal.returns
returns c =
    let left : is_some (slice_get (steps_at (outgoing c.args.of.now) c.args.cursor.stage) c.args.cursor.step)
    ≡ list_any is_rcpt (steps_from (outgoing c.args.of.now) c.args.cursor.stage c.args.cursor.step) =
    rw c.requires (recipients_left (outgoing c.args.of.now) c.args.cursor.step) in
    c.is_some.ensures ∙ ap (λ (stage : Option (Option Stage)). is_some stage) c.stage_at.ensures
    ∙ is_some_mapped (slice_get (steps_at (outgoing c.args.of.now) c.args.cursor.stage) c.args.cursor.step) ∙ left
