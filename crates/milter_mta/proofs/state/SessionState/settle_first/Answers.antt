use Rattle.std.proofs.Common.{◌-◌, ◌∷◌, ◌++◌, [], Bool, List, Some, not, ap, ◌∙◌}
use Rattle.milter_message.specs.MailObject.{MailObject}
use Rattle.milter_mail.specs.MailSession.{MailSession}
use Rattle.milter_wire.specs.Negotiation.{has_leading_space}
use Rattle.milter_mta_outcome.specs.declared.acted_verdicts.Acted.{Acted}
use Rattle.milter_mta_outcome.specs.declared.loss.By.TheVariants.{Default, Filter}
use Rattle.milter_mta_outcome.specs.declared.loss.Loss.TheVariants.{Memory}
use Rattle.milter_mta_outcome.specs.declared.outcome.Outcome.{Outcome}
use Rattle.milter_mta_outcome.specs.ActedVerdicts.{kept}
use Rattle.milter_mta_outcome.specs.ReceivedReplies.{is_end}
use Rattle.milter_mta_outcome.specs.Outcomes.{fallback, outcome}
use Rattle.milter_mta_outcome.specs.TransactionVerdicts.{last_verdict, number_after, on_connection}
use Rattle.milter_mta.specs.declared.state.SessionState.{SessionState}
use Rattle.milter_mta.specs.Accounts.{Accounts}
use Rattle.milter_mta.specs.CoreParts.{session_of, unconnected, with_state_report}
use Rattle.milter_mta.specs.Mta.{Mta, Position, connection_at}
use Rattle.milter_mta.specs.Dispositions.{next_message, report}
use Rattle.milter_mta.proofs.Begun.{next_after}
use Rattle.milter_mta.proofs.KeptRecipients.{kept_end}
use Rattle.milter_mta.proofs.state.SessionState.settle_first.Goals as goal

pub returns-in-Ok-outcome_of-clause-settled : goal.returns-in-Ok-outcome_of-clause-settled
returns-in-Ok-outcome_of-clause-settled c =
    let self = c.args.self.now in
    let transaction = c.args.transaction in
    let stage = c.args.stage in
    let waiting = self.queue.waiting in
    let session : MailSession = session_of self.client_info waiting in
    let next = next_after transaction.negotiated c.in-Ok.opened (on_connection transaction.acted) session waiting c.in-Ok.ensures.opened in
    let at : SessionState → Accounts → Position → Mta = λ s l p. record (unconnected (record s { queue = l }) []) { filter_connection = Some (connection_at (not (is_end stage)) p) } in
    let then_next : SessionState → Accounts → Mta = λ s l. at s l (next_message transaction.negotiated c.in-Ok.opened (session_of s.client_info l.waiting) l.waiting) in
    let reported : SessionState → Outcome → Accounts =
    λ s o. record s.queue { reports = s.queue.reports ++ report transaction.acted o Filter ∷ []; spare = s.queue.spare - 1 } in
    let space = has_leading_space transaction.negotiated in
    let outcome_is = c.in-Ok-outcome_of.ensures.settled
    ∙ ap (λ (b : Bool). outcome b stage c.args.answer c.kept_message-kept.result) c.has_leading_space.ensures
    ∙ ap (λ (k : MailObject). outcome space stage c.args.answer k)
    (c.kept_message-kept.ensures ∙ ap (λ (acted : List Acted). kept transaction.message acted) c.as_slice.ensures) in
    c.next_transaction.ensures.next
    ∙ ap (λ (l : Accounts). then_next c.opened_next.new.self l) c.add_report.ensures
    ∙ ap (λ (s : SessionState). then_next s (reported s c.in-Ok-outcome_of.outcome)) c.opened_next.ensures.same
    ∙ ap (λ (o : Outcome). then_next self (reported self o)) outcome_is
    ∙ ap (at self (reported self (outcome space stage c.args.answer (kept transaction.message transaction.acted)))) next

pub returns-in-Err-clause-lost : goal.returns-in-Err-clause-lost
returns-in-Err-clause-lost c before e =
    let last : Acted = record { stage = c.args.stage; nth = number_after c.args.stage (last_verdict before); verdict = c.args.answer.verdict } in
    let self = c.args.self.now in
    let message = c.args.transaction.message in
    let kept_is = c.in-Err.ensures.refused
    ∙ c.kept_message-kept.ensures
    ∙ ap (λ (acted : List Acted). kept message acted) (c.as_slice.ensures ∙ e)
    ∙ kept_end message before last c.in-Err.ensures.at_end_alone in
    let by_default : SessionState → MailObject → SessionState =
    λ s k. with_state_report (report before (fallback s.config.on_loss k) (Default Memory)) s in
    c.refuse_kept.ensures.state before last e
    ∙ ap (λ (l : Accounts). by_default (record c.opened_next.new.self { queue = l }) c.in-Err.kept) c.give_back.ensures
    ∙ ap (λ (s : SessionState). by_default s c.in-Err.kept) c.opened_next.ensures.same
    ∙ ap (by_default self) kept_is
