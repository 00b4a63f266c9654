-- What a mail server calls for of a client and of a message, and what its caller has of a dialogue.
use Rattle.std.specs.Prelude.{◌≡◌, ◌≤◌, ℕ, Bool, true, List, [], ◌∷◌, ◌++◌, map, Option, None, Some}
use Rattle.std.specs.List.{filter_map, flat_map}
use Rattle.milter_wire.specs.declared.command.Command.{Command}
use Rattle.milter_wire.specs.declared.command.Command.TheVariants as commands
use Rattle.milter_wire.specs.declared.negotiation.Negotiated.{Negotiated}
use Rattle.milter_wire.specs.declared.stage.Stage.{Stage}
use Rattle.milter_wire.specs.Negotiation.{has_leading_space}
use Rattle.milter_wire.specs.Stages.{macro_command_of}
use Rattle.milter_fields.specs.declared.pair.Pair.{Pair}
use Rattle.milter_fields.specs.declared.client.Client.{Client}
use Rattle.milter_message.specs.declared.edit.Edit.{Edit}
use Rattle.milter_message.specs.Chunks.{chunks_of}
use Rattle.milter_message.specs.LeadingSpace.{sent_header}
use Rattle.milter_message.specs.MailObject.{MailObject}
use Rattle.milter_mail.specs.ChosenMacros.{chosen_macros}
use Rattle.milter_mail.specs.Macros.{Macros}
use Rattle.milter_mail.specs.MailSession.{MailSession}
use Rattle.milter_mail.specs.Steps.{macro_step, message_steps}
use Rattle.milter_protocol.specs.declared.answer.Answer.{Answer}
use Rattle.milter_protocol.specs.Behavior.{Behavior, exchange_of}
use Rattle.milter_protocol.specs.Dialogue.{dialogue_with}
use Rattle.milter_protocol.specs.Exchanges.{Exchange, commands_of, onto}
use Rattle.milter_mta_connection.specs.declared.filter_event.Fed.{Fed}
use Rattle.milter_mta_connection.specs.declared.filter_event.FilterEvent.TheVariants as events
use Rattle.milter_mta_connection.specs.Channel.{Channel, is_idle, without_edits}
use Rattle.milter_mta_connection.specs.declared.phase.Phase.TheVariants.{NoMessage}
use Rattle.milter_mta_connection.specs.Connection.{Connection, after_verdict, pairs_for, phase_after, rank_after}
use Rattle.milter_mta_connection.specs.Conversations.{Conversation, exchanges_about, with_calls}

-- ---- the commands that are called for

abbrev pub client_calls : Client → List ℕ → List Command
client_calls client helo = commands.Connect client ∷ commands.Helo helo ∷ []

-- of a message, whose header fields are sent with the blanks that their values begin with, or without
abbrev pub message_calls : Bool → MailObject → List Command
message_calls leading_space message =
    commands.Mail message.sender
    ∷ (map (λ recipient. commands.Rcpt recipient) message.recipients
    ++ (commands.DataCmd
    ∷ (map (λ header. commands.Header (sent_header leading_space header)) message.headers
    ++ (commands.Eoh ∷ (map (λ chunk. commands.Body chunk) (chunks_of message.body) ++ (commands.Eob [] ∷ []))))))

-- ---- where a message may begin

-- the options came, nothing is pending, and no reply is owed
pub record IsQuiet (negotiated : Negotiated) (c : Channel) : Type 0 where
  pub negotiated_is : c.negotiated ≡ Some negotiated
  pub idle : is_idle c ≡ true
  pub none_unread : c.unread ≡ []

-- so is it, and no message is under way
pub record IsReady (negotiated : Negotiated) (c : Connection) : Type 0 where
  pub quiet : IsQuiet negotiated c.channel
  pub phase_is : c.phase ≡ NoMessage
  pub rank : c.last_rank ≤ 2

-- ---- what a caller has of a dialogue

-- the answers in exchanges
abbrev pub answers_in : List Exchange → List Answer
answers_in exchanges = filter_map (λ exchange. exchange.answer) exchanges

-- an answer is given as its verdict, without a loss
abbrev pub fed_by_answer : Answer → Fed
fed_by_answer answer = record { event = events.Verdict answer.verdict; loss = None }

abbrev pub edits_in : List Exchange → List Edit
edits_in exchanges = flat_map (λ answer. answer.edits) (answers_in exchanges)

-- What a caller has of these exchanges: what was sent, with the answers, is what was before and then these; each answer
-- was given as its verdict, and nothing else; the edits are those of the answers; and no call was refused.
pub record IsGiven (exchanges : List Exchange) (before after : Conversation) : Type 0 where
  pub transcript : after.transcript ≡ onto exchanges before.transcript
  pub verdicts : after.fed ≡ before.fed ++ map fed_by_answer (answers_in exchanges)
  pub edits : after.connection.channel.edits ≡ edits_in exchanges
  pub no_faults : after.faults ≡ before.faults

-- ---- one call

-- a command of this stage was called for, and nothing is pending
abbrev pub taken : Stage → Connection → Connection
taken stage c =
    record {
      channel = without_edits c.channel;
      phase = phase_after c.phase stage;
      last_rank = rank_after c.phase c.last_rank stage;
    }

-- the answer to a command of this stage was given, if there is one
abbrev pub answered : Stage → Option Answer → Conversation → Conversation
answered stage None t = t
answered stage (Some answer) t =
    record t {
      connection = after_verdict stage answer.verdict
          (record t.connection { channel = record t.connection.channel { edits = answer.edits } });
      fed = t.fed ++ fed_by_answer answer ∷ [];
    }

-- the exchanges before a command of this stage, that about its macros the latest
abbrev pub with_macros : Behavior → Negotiated → Stage → List Pair → Conversation → List Exchange
with_macros b negotiated stage pairs t =
    let macros = macro_step (macro_command_of stage) (pairs_for t.connection stage pairs) in
    onto (exchanges_about b negotiated t.transcript macros) t.transcript

-- a command of this stage was called for and sent, and its answer was given
abbrev pub with_exchange : Behavior → Negotiated → Stage → Command → List Pair → Conversation → Conversation
with_exchange b negotiated stage command pairs t =
    let before = with_macros b negotiated stage pairs t in
    let exchange = exchange_of b negotiated (commands_of before) command in
    answered stage exchange.answer
    (record t { connection = taken stage t.connection; transcript = exchange ∷ before })

-- ---- messages

-- a message is called for, part by part
abbrev pub with_message : Behavior → Negotiated → Macros → MailObject → Conversation → Conversation
with_message b negotiated macros message t =
    with_calls b negotiated macros (message_calls (has_leading_space negotiated) message) t

-- the client is called for, and then a message
abbrev pub with_session : Behavior → Negotiated → MailSession → MailObject → Conversation → Conversation
with_session b negotiated session message t =
    with_calls b negotiated session.macros
    (client_calls session.client session.helo ++ message_calls (has_leading_space negotiated) message) t

-- the dialogue about a message
abbrev pub dialogue_about : Behavior → Negotiated → Macros → MailObject → List Exchange → List Exchange
dialogue_about b negotiated macros message before =
    dialogue_with b negotiated before (message_steps negotiated (chosen_macros negotiated.lists macros) message)
