-- What always holds of a session when a message begins, and when one is settled.
use Rattle.std.proofs.Common.{◌≡◌, ◌-◌, ◌⊎◌, inl, inr, List, ◌∷◌, All, None, Some, length, sym, ap, subst, ◌∙◌, arith}
use Rattle.std.proofs.lemmas.List.Elements.{All-head, All-tail}
use Rattle.milter_message.specs.MailObject.{MailObject}
use Rattle.milter_wire.specs.declared.stage.Stage.{Stage}
use Rattle.milter_wire.specs.declared.stage.Stage.TheVariants.{Connect, Mail}
use Rattle.milter_mail.specs.ChosenMacros.{chosen_macros}
use Rattle.milter_mail.specs.MailSession.{IsSendable, IsSession}
use Rattle.milter_mta_outcome.specs.declared.outcome.Report.{Report}
use Rattle.milter_mta_outcome.specs.declared.plan_cursor.Cursor.{Cursor}
use Rattle.milter_mta_outcome.specs.declared.transaction.Transaction.{Transaction}
use Rattle.milter_mta_outcome.proofs.PlanLaws.{begun_sends}
use Rattle.milter_mta.specs.declared.state.Position.TheVariants as parts
use Rattle.milter_mta.specs.declared.state.SessionState.{SessionState}
use Rattle.milter_mta.specs.Accounts.{Accounts}
use Rattle.milter_mta.specs.CoreParts.{IsConsistent, only, session_of, with_state_report}

pub fewer_waiting : (state : SessionState) (message : MailObject) (waiting : List MailObject)
    → IsSession (session_of state.client_info state.queue.waiting) → state.queue.waiting ≡ message ∷ waiting
    → IsSession (session_of state.client_info waiting)
fewer_waiting state message waiting whole e =
    let P : MailObject → Type 0 = IsSendable state.client_info.client state.client_info.helo state.client_info.macros in
    record {
      client_fits = whole.client_fits;
      helo_fits = whole.helo_fits;
      macros_fit = whole.macros_fit;
      are_sendable = All-tail P message waiting (subst (All P) e whole.are_sendable);
    }

begun_cursor : (stage : Stage) (cursor : Cursor) → cursor ≡ record { stage = stage; step = 0 } → ((stage ≡ Connect) ⊎ (stage ≡ Mail))
    → ((cursor ≡ record { stage = Connect; step = 0 }) ⊎ (cursor ≡ record { stage = Mail; step = 0 }))
begun_cursor stage cursor e (inl is) = inl (e ∙ ap (λ (s : Stage). record { stage = s; step = 0 }) is)
begun_cursor stage cursor e (inr is) = inr (e ∙ ap (λ (s : Stage). record { stage = s; step = 0 }) is)

pub begun_stands : (state : SessionState) (queue : Accounts) (message : MailObject) (transaction : Transaction) (stage : Stage)
    → IsConsistent state None → state.queue.waiting ≡ message ∷ queue.waiting → queue.spare ≡ state.queue.spare
    → transaction.message ≡ message → transaction.macros ≡ chosen_macros transaction.negotiated.lists state.client_info.macros
    → transaction.cursor ≡ record { stage = stage; step = 0 } → ((stage ≡ Connect) ⊎ (stage ≡ Mail))
    → IsConsistent (record state { queue = queue }) (Some (only (parts.Sending transaction)))
begun_stands state queue message transaction stage consistent e spare is chosen cursor at =
    let P : MailObject → Type 0 = IsSendable state.client_info.client state.client_info.helo state.client_info.macros in
    let whole = consistent.whole in
    let first : P message = All-head P message queue.waiting (subst (All P) e whole.are_sendable) in
    let longer = ap (λ (l : List MailObject). length l) e in
    let room = consistent.room in
    record {
      whole = fewer_waiting state message queue.waiting whole e;
      room = omega (arith, longer, room, spare);
      can_send = record {
        sends = begun_sends state.client_info transaction whole.client_fits whole.helo_fits whole.macros_fit (subst P (sym is) first) chosen
            (begun_cursor stage transaction.cursor cursor at);
        chosen = chosen;
      };
    }

-- a message that waited was settled
pub settled_stands : (state : SessionState) (queue : Accounts) (message : MailObject) (r : Report) → IsConsistent state None
    → state.queue.waiting ≡ message ∷ queue.waiting → queue.spare ≡ state.queue.spare
    → IsConsistent (with_state_report r (record state { queue = queue })) None
settled_stands state queue message r consistent e spare =
    let longer = ap (λ (l : List MailObject). length l) e in
    let room = consistent.room in
    record {
      whole = fewer_waiting state message queue.waiting consistent.whole e;
      room = omega (arith, longer, room, spare);
      can_send = tt;
    }

-- the message under way was settled
pub ended_stands : (state : SessionState) (queue : Accounts) (transaction : Transaction) → IsConsistent state (Some (only (parts.Sending transaction)))
    → queue.waiting ≡ state.queue.waiting → queue.spare ≡ state.queue.spare - 1
    → IsConsistent (record state { queue = queue }) None
ended_stands state queue transaction consistent e spare =
    let same = ap (λ (l : List MailObject). length l) e in
    let room = consistent.room in
    record {
      whole = subst (λ (l : List MailObject). IsSession (session_of state.client_info l)) (sym e) consistent.whole;
      room = omega (arith, same, room, spare);
      can_send = tt;
    }
