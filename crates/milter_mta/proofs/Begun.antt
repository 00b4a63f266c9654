-- What a message that begins is to the mail server's end.
use Rattle.std.proofs.Common.{◌≡◌, ◌≢◌, Bool, List, [], ◌∷◌, ◌++◌, Some, refl, sym, ap, ◌∙◌}
use Rattle.milter_message.specs.MailObject.{MailObject}
use Rattle.milter_wire.specs.declared.negotiation.Negotiated.{Negotiated}
use Rattle.milter_wire.specs.declared.command.Command.{Command}
use Rattle.milter_wire.specs.declared.stage.Stage.TheVariants.{Connect, Mail}
use Rattle.milter_mta_outcome.specs.declared.acted_verdicts.Acted.{Acted}
use Rattle.milter_mail.specs.MailSession.{MailSession}
use Rattle.milter_mta_outcome.specs.PlanCursor.{outgoing_of}
use Rattle.milter_mta_outcome.proofs.PlanLaws.{message_by_stages, plan_by_stages}
use Rattle.milter_mta.specs.declared.state.Position.{Position as PositionParts}
use Rattle.milter_mta.specs.declared.state.SessionState.{SessionState}
use Rattle.milter_mta.specs.CoreParts.{begun_position, messages_at, mta_at, position_of, session_of, unconnected}
use Rattle.milter_mta.specs.Mta.{FilterConnection, Mta, Position, connection_at}
use Rattle.milter_mta.specs.Mta.Position.{Sending}
use Rattle.milter_mta.specs.Replies.{opening_position}
use Rattle.milter_mta.specs.Dispositions.{next_message}

pub begun_opening : (negotiated : Negotiated) (session : MailSession) (messages : List MailObject)
    → begun_position Connect negotiated [] session messages ≡ opening_position negotiated session messages
begun_opening negotiated session [] = refl
begun_opening negotiated session (message ∷ messages) =
    ap (λ (left : List Command). Sending negotiated [] [] left) (plan_by_stages negotiated session message)

pub begun_next : (negotiated : Negotiated) (opened : List Acted) (session : MailSession) (messages : List MailObject)
    → begun_position Mail negotiated opened session messages ≡ next_message negotiated opened session messages
begun_next negotiated opened session [] = refl
begun_next negotiated opened session (message ∷ messages) =
    ap (λ (left : List Command). Sending negotiated opened [] left) (message_by_stages (outgoing_of negotiated session message))

-- the verdicts on the client matter where a message waits
pub next_after : (negotiated : Negotiated) (opened acted : List Acted) (session : MailSession) (messages : List MailObject) → (messages ≢ [] → opened ≡ acted)
    → next_message negotiated opened session messages ≡ next_message negotiated acted session messages
next_after negotiated opened acted session [] same = refl
next_after negotiated opened acted session (message ∷ messages) same =
    ap (λ (a : List Acted). next_message negotiated a session (message ∷ messages)) (same (λ none. absurd cc))

module _ (old : SessionState) where
  abbrev made : List MailObject → FilterConnection → Mta
  made messages filter_connection = record {
    config = old.config;
    session = session_of old.client_info messages;
    reports = old.queue.reports;
    connection = old.connection;
    filter_connection = Some filter_connection;
  }

  pub begun_mta : (new : SessionState) (next : PositionParts) (aborts : Bool) (position : Position)
      → new ≡ record old { queue = record old.queue { waiting = new.queue.waiting } }
      → messages_at next ++ new.queue.waiting ≡ old.queue.waiting → position_of new.client_info [] next ≡ position
      → mta_at new (record { aborts = aborts; position = next })
      ≡ record (unconnected old []) { filter_connection = Some (connection_at aborts position) }
  begun_mta new next aborts position e messages at =
      ap (λ (s : SessionState). mta_at s (record { aborts = aborts; position = next })) e
      ∙ ap (λ (ms : List MailObject). made ms (connection_at aborts (position_of old.client_info [] next))) messages
      ∙ ap (λ (p : Position). made old.queue.waiting (connection_at aborts p)) (ap (λ (s : SessionState). position_of s.client_info [] next) (sym e) ∙ at)
