use Rattle.std.proofs.Common.{arith, sym, ap, ◌∙◌, ◌≡◌, drop}
use Rattle.std.proofs.lemmas.Grind.{common_steps}
use Rattle.milter_mta_outcome.specs.PlanCursor.{Outgoing, steps_from, without_body}
use Rattle.milter_mta_outcome.specs.Transactions.{left_of, outgoing_transaction}
use Rattle.milter_mta_outcome.specs.OutgoingValue.{outgoing}
use Rattle.milter_mta_outcome.proofs.TransactionSteps.{body_fits, body_length, fits_after, sends_by, stage_some}
use Rattle.milter_mta_outcome.proofs.transaction.Transaction.act.Goals as goal

pub returns-then-is_final-clause-sends : goal.returns-then-is_final-clause-sends
returns-then-is_final-clause-sends c =
    sends_by _ _ _ c.cursor_after-self.ensures.left (fits_after _ c.requires.sends.fits) c.cursor_after-self.ensures.room

pub returns-then-skips-clause-sends : goal.returns-then-skips-clause-sends
returns-then-skips-clause-sends c =
    let at = c.cursor_after-self.result in
    let after = c.after_body-self.result in
    let left = left_of c.args.client_info.now c.args.self.now in
    let o = outgoing c.outgoing.result in
    let transaction : Outgoing = outgoing_transaction c.args.client_info.now c.args.self.now in
    let is : steps_from transaction after.stage after.step ≡ without_body (drop 1 left) =
    ap (λ (o : Outgoing). steps_from o after.stage after.step) (sym c.outgoing.ensures)
    ∙ c.after_body-self.ensures.left
    ∙ ap (λ (o : Outgoing). without_body (steps_from o at.stage at.step)) c.outgoing.ensures
    ∙ ap without_body c.cursor_after-self.ensures.left in
    let less = body_length (drop 1 left) in
    let room = c.cursor_after-self.ensures.room in
    let first = c.after_body-self.ensures.step in
    sends_by _ _ _ is (body_fits _ (fits_after _ c.requires.sends.fits)) (omega (arith, less, room, first))

pub returns-else-skips-clause-sends : goal.returns-else-skips-clause-sends
returns-else-skips-clause-sends c =
    sends_by _ _ _ c.cursor_after-self.ensures.left (fits_after _ c.requires.sends.fits) c.cursor_after-self.ensures.room

pub cursor_after-self-requires-clause-some : goal.cursor_after-self-requires-clause-some
cursor_after-self-requires-clause-some c = stage_some (left_of c.args.client_info.now c.args.self.now) c.args.stage c.requires.stage

pub returns-else-skips-clause-left : goal.returns-else-skips-clause-left
returns-else-skips-clause-left c = grind (arith, common_steps)
