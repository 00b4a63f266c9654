-- How a dialogue settles messages, and where a mail server's end goes on.
use Rattle.std.specs.Prelude.{◌≡◌, Bool, false, not, List, [], ◌∷◌, ◌++◌, map, Option, Some, option_map}
use Rattle.milter_wire.specs.declared.negotiation.Negotiated.{Negotiated}
use Rattle.milter_wire.specs.declared.verdict.Verdict.{Verdict}
use Rattle.milter_message.specs.MailObject.{MailObject}
use Rattle.milter_mail.specs.MailSession.{MailSession}
use Rattle.milter_mail.specs.Plan.{macros_of}
use Rattle.milter_mail.specs.Steps.{message_steps}
use Rattle.milter_protocol.specs.Commands.{is_of_connection}
use Rattle.milter_protocol.specs.Exchanges.{Exchange}
use Rattle.milter_protocol.specs.Dialogue.{is_end_command}
use Rattle.milter_mta_outcome.specs.declared.loss.By.TheVariants.{Connection}
use Rattle.milter_mta_outcome.specs.declared.outcome.Outcome.{Outcome}
use Rattle.milter_mta_outcome.specs.Dialogues.{acted}
use Rattle.milter_mta_outcome.specs.TransactionVerdicts.{last_verdict}
use Rattle.milter_mta.specs.Mta.{FilterConnection, Mta, Position, at_packet, connection_at}
use Rattle.milter_mta.specs.Mta.Position.{Quitting}
use Rattle.milter_mta.specs.Dispositions.{report}
use Rattle.milter_mta.specs.Dialogues.{opening_of, position_in}

-- the last exchange is about the client or its greeting
abbrev pub ends_with_client : List Exchange → Bool
ends_with_client [] = false
ends_with_client (last ∷ before) = is_of_connection last.command

-- the last exchange is about the end of the message
abbrev pub ends_with_message : List Exchange → Bool
ends_with_message [] = false
ends_with_message (last ∷ before) = is_end_command last.command

-- the first of the messages that are left, after the exchanges about its client; or the end of the connection
abbrev pub next_position : Negotiated → List Exchange → MailSession → List MailObject → Position
next_position negotiated dialogue session [] = Quitting
next_position negotiated dialogue session (message ∷ messages) =
    position_in negotiated dialogue (message_steps negotiated (macros_of negotiated session) message)

-- after a message that this dialogue settled: where it was not sent to its end, an abort must still be sent
abbrev pub next_connection : Negotiated → List Exchange → MailSession → List MailObject → FilterConnection
next_connection negotiated dialogue session messages =
    connection_at (not (ends_with_message dialogue)) (next_position negotiated (opening_of dialogue) session messages)

-- the last verdict of a dialogue
abbrev pub dialogue_verdict : List Exchange → Option Verdict
dialogue_verdict dialogue = option_map (λ a. a.verdict) (last_verdict (acted dialogue))

-- every message that was left is reported with its outcome, the last verdict is the connection's, and the filter is
-- asked to quit
pub record AreAllSettled (dialogue : List Exchange) (outcome_of : MailObject → Outcome) (old new : Mta) : Type 0 where
  pub none_left : new.session.messages ≡ []
  pub reported : new.reports
      ≡ old.reports ++ map (λ message. report (acted dialogue) (outcome_of message) Connection) old.session.messages
  pub connection : new.connection ≡ dialogue_verdict dialogue
  pub quits : new.filter_connection ≡ Some (at_packet Quitting)
