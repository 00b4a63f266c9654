use Rattle.std.proofs.Common.{arith, sym, ap, ◌∙◌, slice_get, subst}
use Rattle.std.specs.Prelude.{IsSome}
use Rattle.milter_mta_outcome.specs.declared.plan_cursor.Cursor.{Cursor}
use Rattle.milter_mta_outcome.specs.PlanCursor.{Outgoing, steps_at}
use Rattle.milter_mta_outcome.specs.Transactions.{left_of, outgoing_transaction}
use Rattle.milter_mta_outcome.proofs.TransactionStages.{stage_at}
use Rattle.milter_mta_outcome.proofs.TransactionSteps.{first_is, found_some, less_by_one}
use Rattle.milter_mta_outcome.proofs.transaction.Transaction.cursor_after.Goals as goal

pub next-requires-clause-there : goal.next-requires-clause-there
next-requires-clause-there c =
    let at = c.args.self.now.cursor in
    subst (λ (o : Outgoing). IsSome (slice_get (steps_at o at.stage) at.step)) (sym c.outgoing.ensures)
    (found_some (left_of c.args.client_info.now c.args.self.now) _ c.requires.some c.requires.there)

pub next-requires-clause-room : goal.next-requires-clause-room
next-requires-clause-room c =
    let room = c.requires.sends.room in
    omega (arith, room)

pub returns-clause-stage : goal.returns-clause-stage
returns-clause-stage c stage e =
    let at = c.args.self.now.cursor in
    let left = left_of c.args.client_info.now c.args.self.now in
    ap (λ (cursor : Cursor). cursor.stage) c.next.ensures.cursor
    ∙ stage_at (outgoing_transaction c.args.client_info.now c.args.self.now) at.stage stage at.step left (c.requires.there ∙ first_is left) e

pub returns-clause-room : goal.returns-clause-room
returns-clause-room c =
    let less = less_by_one (left_of c.args.client_info.now c.args.self.now) c.requires.some in
    let step = ap (λ (cursor : Cursor). cursor.step) c.next.ensures.cursor in
    let room = c.requires.sends.room in
    omega (arith, room, less, step)
