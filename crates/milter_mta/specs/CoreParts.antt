-- A mail server's end by its parts.
use Rattle.std.specs.Prelude.{◌≡◌, ◌≤◌, ◌+◌, ◌-◌, true, false, List, [], ◌∷◌, ◌++◌, length, map, Option, None, Some, Result, Ok, Err}
use Rattle.milter_message.specs.declared.edit.Edit.{Edit}
use Rattle.milter_message.specs.MailObject.{MailObject}
use Rattle.milter_mail.specs.ChosenMacros.{chosen_macros}
use Rattle.milter_mail.specs.MailSession.{IsSession, MailSession}
use Rattle.milter_mta_connection.specs.declared.channel_state.ExpectedReply.{ExpectedReply}
use Rattle.milter_mta_connection.specs.declared.channel_state.ExpectedReply.TheVariants as expects
use Rattle.milter_mta_connection.specs.declared.filter_event.FilterEvent.{FilterEvent}
use Rattle.milter_mta_connection.specs.declared.filter_event.FilterEvent.TheVariants as events
use Rattle.milter_mta_connection.specs.Channel.{Channel, is_owed, without_edits}
use Rattle.milter_mta_outcome.specs.declared.acted_verdicts.Acted.{Acted}
use Rattle.milter_mta_outcome.specs.declared.loss.By.TheVariants.{Connection}
use Rattle.milter_mta_outcome.specs.declared.loss.Loss.{Loss}
use Rattle.milter_mta_outcome.specs.declared.loss.Loss.TheVariants.{Memory}
use Rattle.milter_mta_outcome.specs.declared.plan_cursor.ClientInfo.{ClientInfo}
use Rattle.milter_mta_outcome.specs.declared.transaction.Transaction.{Transaction}
use Rattle.milter_mta_outcome.specs.declared.outcome.Report.{Report}
use Rattle.milter_wire.specs.declared.negotiation.Negotiated.{Negotiated}
use Rattle.milter_wire.specs.declared.stage.Stage.{Stage}
use Rattle.milter_wire.specs.declared.verdict.Verdict.{Verdict}
use Rattle.milter_wire.specs.Verdicts.{given_at}
use Rattle.milter_mta_outcome.specs.Outcomes.{at_connection}
use Rattle.milter_mta_outcome.specs.PlanCursor.{outgoing_of, steps_from}
use Rattle.milter_mta_outcome.specs.TransactionVerdicts.{with_verdict}
use Rattle.milter_mta_outcome.specs.Transactions.{Sends, left_of, stage_first}
use Rattle.milter_mta.specs.declared.state.Position.{Position as PositionParts}
use Rattle.milter_mta.specs.declared.state.Position.TheVariants as parts
use Rattle.milter_mta.specs.declared.state.FilterConnection.{FilterConnection as Connected}
use Rattle.milter_mta.specs.declared.state.SessionState.{SessionState}
use Rattle.milter_mta.specs.Mta.{FilterConnection, Mta, Position, connection_at}
use Rattle.milter_mta.specs.Mta.Position.{Offering, Sending, Quitting, Ended}
use Rattle.milter_mta.specs.Dispositions.{default_report, report}
use Rattle.milter_mta.specs.Driven.{opened_by, ruled_in}

-- ---- its value

-- where these edits came since the last verdict
abbrev pub position_of : ClientInfo → List Edit → PositionParts → Position
position_of client_info edits parts.Offering = Offering
position_of client_info edits (parts.Sending transaction) =
    Sending transaction.negotiated transaction.acted edits (left_of client_info transaction)
position_of client_info edits parts.Quitting = Quitting
position_of client_info edits parts.Ended = Ended

-- the message that is under way
abbrev pub messages_at : PositionParts → List MailObject
messages_at (parts.Sending transaction) = transaction.message ∷ []
messages_at other = []

abbrev pub messages_in : Option Connected → List MailObject
messages_in None = []
messages_in (Some connection) = messages_at connection.position

abbrev pub connection_of : ClientInfo → Connected → Channel → FilterConnection
connection_of client_info connection channel =
    record {
      aborts = connection.aborts;
      position = position_of client_info channel.edits connection.position;
      pending = channel.pending;
      owed = is_owed channel;
      unread = channel.unread;
    }

abbrev pub connection_in : ClientInfo → Option Connected → Channel → Option FilterConnection
connection_in client_info None channel = None
connection_in client_info (Some connection) channel = Some (connection_of client_info connection channel)

abbrev pub session_of : ClientInfo → List MailObject → MailSession
session_of client_info messages =
    record { client = client_info.client; helo = client_info.helo; macros = client_info.macros; messages = messages }

-- without a connection, with these messages under way
abbrev pub unconnected : SessionState → List MailObject → Mta
unconnected state messages =
    record {
      config = state.config;
      session = session_of state.client_info (messages ++ state.queue.waiting);
      reports = state.queue.reports;
      connection = state.connection;
      filter_connection = None;
    }

abbrev pub mta_of : SessionState → Option Connected → Channel → Mta
mta_of state connection channel =
    record (unconnected state (messages_in connection)) {
      filter_connection = connection_in state.client_info connection channel;
    }

-- at the start of a packet
abbrev pub mta_at : SessionState → Connected → Mta
mta_at state connection =
    record (unconnected state (messages_at connection.position)) {
      filter_connection =
          Some (connection_at connection.aborts (position_of state.client_info [] connection.position));
    }

-- no abort is due
abbrev pub only : PositionParts → Connected
only next = record { aborts = false; position = next }

-- with one report more
abbrev pub with_state_report : Report → SessionState → SessionState
with_state_report r state =
    record state {
      queue = record state.queue { reports = state.queue.reports ++ r ∷ []; spare = state.queue.spare - 1 };
    }

-- with a report for each message that waits, by a verdict on the client or its greeting
abbrev pub with_all_reports : List Acted → Verdict → SessionState → SessionState
with_all_reports acted verdict state =
    record state {
      queue = record {
        waiting = [];
        reports = state.queue.reports
            ++ map (λ message. report acted (at_connection verdict message) Connection) state.queue.waiting;
        spare = state.queue.spare - length state.queue.waiting;
      };
    }

-- the first of these messages, from this stage on
abbrev pub begun_position : Stage → Negotiated → List Acted → MailSession → List MailObject → Position
begun_position stage negotiated acted session [] = Quitting
begun_position stage negotiated acted session (message ∷ messages) =
    Sending negotiated acted [] (steps_from (outgoing_of negotiated session message) stage 0)

-- ---- what always holds of it

-- a message under way can be sent, with the macros that were asked for
pub record IsUnderWay (client_info : ClientInfo) (transaction : Transaction) : Type 0 where
  pub sends : Sends client_info transaction
  pub chosen : transaction.macros ≡ chosen_macros transaction.negotiated.lists client_info.macros

abbrev pub CanSend : ClientInfo → PositionParts → Type 0
CanSend client_info (parts.Sending transaction) = IsUnderWay client_info transaction
CanSend client_info other = Unit {0}

abbrev pub CanSendIn : ClientInfo → Option Connected → Type 0
CanSendIn client_info None = Unit {0}
CanSendIn client_info (Some connection) = CanSend client_info connection.position

-- the session is one, each of its messages has room for its report, and that under way can be sent
pub record IsConsistent (state : SessionState) (connection : Option Connected) : Type 0 where
  pub whole : IsSession (session_of state.client_info state.queue.waiting)
  pub room : length (messages_in connection) + length state.queue.waiting ≤ state.queue.spare
  pub can_send : CanSendIn state.client_info connection

-- the next command of a message is of this stage
abbrev pub IsCommand : ClientInfo → Stage → PositionParts → Type 0
IsCommand client_info stage (parts.Sending transaction) = stage_first (left_of client_info transaction) ≡ Some stage
IsCommand client_info stage other = ⊥

-- the same packet is the next one, though its place in the plan may have been looked up
pub record IsSamePlace (client_info : ClientInfo) (old new : Connected) : Type 0 where
  pub aborts : new.aborts ≡ old.aborts
  pub position : (edits : List Edit) →
      position_of client_info edits new.position ≡ position_of client_info edits old.position
  pub can_send : CanSend client_info new.position
  pub messages : messages_at new.position ≡ messages_at old.position

-- ---- an event

-- the event is one that comes at this position while this reply is expected
abbrev pub IsTaken : ClientInfo → PositionParts → ExpectedReply → FilterEvent → Channel → Type 0
IsTaken client_info next (expects.Verdict stage) (events.Verdict verdict) channel =
    IsCommand client_info stage next × (given_at verdict stage ≡ true)
IsTaken client_info next other (events.Verdict verdict) channel = ⊥
IsTaken client_info next expected events.Negotiated channel =
    (next ≡ parts.Offering) × (negotiated : Negotiated) × (channel.negotiated ≡ Some negotiated)
IsTaken client_info next expected waiting channel = Unit {0}

-- what the plan makes of it
abbrev pub Follows : FilterEvent → SessionState → Connected → Channel → SessionState → Connected → Channel → Type 0
Follows (events.Verdict verdict) old_state old old_channel state new channel =
    (mta_at state new
    ≡ ruled_in (position_of old_state.client_info [] old.position) verdict old_channel.edits
    (mta_at old_state (only old.position)))
    × (channel ≡ without_edits old_channel)
Follows events.Negotiated old_state old old_channel state new channel =
    (mta_at state new ≡ opened_by old_channel.negotiated (mta_at old_state (only old.position)))
    × (channel ≡ old_channel)
Follows waiting old_state old old_channel state new channel =
    (state ≡ old_state) × (new ≡ old) × (channel ≡ old_channel)

-- ---- after a reply

-- after a loss there is no connection
abbrev pub mta_after : {A : Type 0} → SessionState → Connected → Result A Loss → Mta
mta_after state connection (Ok value) = mta_at state connection
mta_after state connection (Err loss) = unconnected state []

abbrev pub IsConsistentAfter : {A : Type 0} → SessionState → Connected → Result A Loss → Type 0
IsConsistentAfter state connection (Ok value) = IsConsistent state (Some connection)
IsConsistentAfter state connection (Err loss) = IsConsistent state None

-- the message of a transaction, whose last verdict is this one on a command of this stage, is settled by default before
-- that verdict, as memory was refused
abbrev pub IsLostBeforeLast : Stage → Verdict → Transaction → SessionState → SessionState → Type 0
IsLostBeforeLast stage verdict transaction old new =
    (before : List Acted) → transaction.acted ≡ with_verdict stage verdict before →
    new ≡ with_state_report (default_report old.config.on_loss Memory transaction.message before) old
