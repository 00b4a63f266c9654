-- Reports of all messages that wait, one after the other.
use Rattle.std.proofs.Common.{◌≡◌, ◌-◌, ℕ, List, [], ◌∷◌, ◌++◌, All, length, map, Some, sym, ap, subst, ◌∙◌, arith}
use Rattle.std.proofs.lemmas.List.{append-nil, append_assoc}
use Rattle.std.proofs.lemmas.List.Elements.{All-cons, All-head, All-nil, All-tail}
use Rattle.milter_message.specs.MailObject.{MailObject}
use Rattle.milter_wire.specs.declared.verdict.Verdict.{Verdict}
use Rattle.milter_mta_outcome.specs.declared.acted_verdicts.Acted.{Acted}
use Rattle.milter_mta_outcome.specs.declared.loss.By.TheVariants.{Connection}
use Rattle.milter_mta_outcome.specs.declared.outcome.Report.{Report}
use Rattle.milter_mta_outcome.specs.Outcomes.{at_connection}
use Rattle.milter_mta.specs.declared.state.SessionState.{SessionState}
use Rattle.milter_mail.specs.MailSession.{IsSendable}
use Rattle.milter_mta_outcome.specs.declared.transaction.Transaction.{Transaction}
use Rattle.milter_mta.specs.declared.state.FilterConnection.{FilterConnection as Connected}
use Rattle.milter_mta.specs.declared.state.Position.TheVariants as parts
use Rattle.milter_mta.specs.Mta.{Mta}
use Rattle.milter_mta.specs.Accounts.{Accounts}
use Rattle.milter_mta.specs.CoreParts.{IsConsistent, mta_at, only, with_all_reports, with_state_report}
use Rattle.milter_mta.specs.Dispositions.{report, settled_all}

-- none waits
pub none_left : (acted : List Acted) (verdict : Verdict) (state : SessionState) → state.queue.waiting ≡ []
    → with_all_reports acted verdict state ≡ state
none_left acted verdict state e =
    let all_spare : state.queue.spare - 0 ≡ state.queue.spare = omega arith in
    ap (λ (waiting : List MailObject). record state {
      queue = record {
        waiting = [];
        reports = state.queue.reports ++ map (λ message. report acted (at_connection verdict message) Connection) waiting;
        spare = state.queue.spare - length waiting;
      };
    }) e
    ∙ ap (λ (l : Accounts). record state { queue = l })
    (ap (λ (n : ℕ). record { waiting = []; reports = state.queue.reports ++ []; spare = n }) all_spare
    ∙ ap (λ (reports : List Report). record { waiting = []; reports = reports; spare = state.queue.spare }) (append-nil state.queue.reports)
    ∙ ap (λ (waiting : List MailObject). record state.queue { waiting = waiting }) (sym e))

-- one is reported, and then the others
pub one_more : (acted : List Acted) (verdict : Verdict) (state : SessionState) (queue : Accounts) (message : MailObject)
    → state.queue.waiting ≡ message ∷ queue.waiting → queue.reports ≡ state.queue.reports → queue.spare ≡ state.queue.spare
    → with_all_reports acted verdict (with_state_report (report acted (at_connection verdict message) Connection) (record state { queue = queue }))
    ≡ with_all_reports acted verdict state
one_more acted verdict state queue message e reports spare =
    let f : MailObject → Report = λ m. report acted (at_connection verdict m) Connection in
    let at : List Report → ℕ → SessionState = λ rs n. record state { queue = record { waiting = []; reports = rs; spare = n } } in
    let longer = ap (λ (l : List MailObject). length l) e in
    let same : (queue.reports ++ f message ∷ []) ++ map f queue.waiting ≡ state.queue.reports ++ map f state.queue.waiting =
    append_assoc queue.reports (f message ∷ []) (map f queue.waiting)
    ∙ ap (λ (rs : List Report). rs ++ map f (message ∷ queue.waiting)) reports
    ∙ ap (λ (ms : List MailObject). state.queue.reports ++ map f ms) (sym e) in
    let less : queue.spare - 1 - length queue.waiting ≡ state.queue.spare - length state.queue.waiting =
    omega (arith, longer, spare) in
    ap (λ (rs : List Report). at rs (queue.spare - 1 - length queue.waiting)) same
    ∙ ap (λ (n : ℕ). at (state.queue.reports ++ map f state.queue.waiting) n) less

-- the last of equal copies was taken
pub popped : (acted : List Acted) (copies : List (List Acted)) (last : List Acted) → All (λ copy. copy ≡ acted) (copies ++ last ∷ [])
    → All (λ copy. copy ≡ acted) copies × (last ≡ acted)
popped acted [] last h = (All-nil (λ copy. copy ≡ acted), All-head (λ copy. copy ≡ acted) last [] h)
popped acted (copy ∷ copies) last h =
    let P : List Acted → Type 0 = λ c. c ≡ acted in
    let others = popped acted copies last (All-tail P copy (copies ++ last ∷ []) h) in
    (All-cons P copy copies (All-head P copy (copies ++ last ∷ []) h) others.0, others.1)

-- ---- every message is settled by a verdict on the connection

abbrev quitting : Connected
quitting = only parts.Quitting

abbrev ended_by : Verdict → SessionState → SessionState
ended_by verdict state = record state { connection = Some verdict }

module _ (old first new : SessionState) (transaction : Transaction) (verdict : Verdict) (one : first ≡ with_state_report (report transaction.acted (at_connection verdict transaction.message) Connection) old)
    (others : new ≡ with_all_reports transaction.acted verdict first) where
  abbrev f : MailObject → Report
  f message = report transaction.acted (at_connection verdict message) Connection

  all_is : new ≡ with_all_reports transaction.acted verdict (with_state_report (f transaction.message) old)
  all_is = others ∙ ap (with_all_reports transaction.acted verdict) one

  abbrev before : Mta
  before = mta_at old (only (parts.Sending transaction))

  pub all_settled : mta_at (ended_by verdict new) quitting ≡ settled_all verdict transaction.acted before
  all_settled =
      ap (λ (s : SessionState). mta_at (ended_by verdict s) quitting) all_is
      ∙ ap (λ (rs : List Report). record (settled_all verdict transaction.acted before) { reports = rs })
      (append_assoc old.queue.reports (f transaction.message ∷ []) (map f old.queue.waiting))

  pub all_stand : IsConsistent old (Some (only (parts.Sending transaction))) → IsConsistent (ended_by verdict new) (Some quitting)
  all_stand consistent =
      subst (λ (s : SessionState). IsConsistent (ended_by verdict s) (Some quitting)) (sym all_is)
      (record {
        whole = record {
          client_fits = consistent.whole.client_fits;
          helo_fits = consistent.whole.helo_fits;
          macros_fit = consistent.whole.macros_fit;
          are_sendable = All-nil (IsSendable old.client_info.client old.client_info.helo old.client_info.macros);
        };
        room = omega arith;
        can_send = tt;
      })
