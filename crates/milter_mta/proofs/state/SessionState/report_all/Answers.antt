use Rattle.std.proofs.Common.{◌∷◌, ◌++◌, [], All, List, arith, length, ap, subst, ◌∙◌, ◌≡◌}
use Rattle.std.proofs.lemmas.List.{length-append}
use Rattle.milter_message.specs.MailObject.{MailObject}
use Rattle.milter_mta_outcome.specs.declared.acted_verdicts.Acted.{Acted}
use Rattle.milter_mta_outcome.specs.declared.loss.By.TheVariants.{Connection}
use Rattle.milter_mta_outcome.specs.Outcomes.{at_connection}
use Rattle.milter_mta.specs.declared.state.SessionState.{SessionState}
use Rattle.milter_mta.specs.Accounts.{Accounts}
use Rattle.milter_mta.specs.CoreParts.{with_all_reports, with_state_report}
use Rattle.milter_mta.specs.Dispositions.{report}
use Rattle.milter_mta.proofs.Reported.{one_more, popped}
use Rattle.milter_mta.proofs.state.SessionState.report_all.Goals as goal

pub loop-acted-preserved-in-Some-next_message : goal.loop-acted-preserved-in-Some-next_message
loop-acted-preserved-in-Some-next_message c =
    let verdict = c.args.verdict.now in
    let message = c.in-Some-next_message.message in
    let left = c.pop.new.self.items in
    let queue = c.next_message.new.self in
    let state : SessionState = record c.loop-acted.self { queue = queue } in
    let room = c.loop-acted.invariant.0 in
    let count = c.loop-acted.invariant.1 in
    let longer = ap (λ (l : List MailObject). length l) c.in-Some-next_message.ensures.some in
    let spare = ap (λ (l : Accounts). l.spare) c.next_message.ensures.same in
    let reports = ap (λ (l : Accounts). l.reports) c.next_message.ensures.same in
    let waiting_then = ap (λ (s : SessionState). length s.queue.waiting) c.report_at_connection.ensures in
    let spare_then = ap (λ (s : SessionState). s.queue.spare) c.report_at_connection.ensures in
    let all_copies = ap (λ (l : List (List Acted)). length l) c.in-Some.ensures.items in
    let one_less = length-append left (c.in-Some.acted ∷ []) in (
      omega (arith, room, longer, spare, waiting_then, spare_then),
      omega (arith, count, longer, waiting_then, all_copies, one_less),
      λ acted all.
          let before = c.loop-acted.invariant.2 acted all in
          let equal : All (λ copy. copy ≡ acted) (left ++ c.in-Some.acted ∷ []) =
          subst (All (λ copy. copy ≡ acted)) c.in-Some.ensures.items before.1 in
          let taken = popped acted left c.in-Some.acted equal in (
            ap (with_all_reports acted verdict) c.report_at_connection.ensures
                ∙ ap (λ (a : List Acted). with_all_reports acted verdict (with_state_report (report a (at_connection verdict message) Connection) state)) taken.1
                ∙ one_more acted verdict c.loop-acted.self queue message c.in-Some-next_message.ensures.some reports spare
                ∙ before.0,
            taken.0,
          ),
    )
