-- A mail server's connection to a filter with the behavior of one: what passes on it, call by call.
use Rattle.std.specs.Prelude.{ℕ, Bool, false, List, [], ◌∷◌, ◌++◌, length, Option, None, Some, if◌then◌else◌}
use Rattle.std.specs.List.{flat_map}
use Rattle.std.specs.Option.{option_to_list}
use Rattle.milter_wire.specs.declared.command.Command.{Command}
use Rattle.milter_wire.specs.declared.negotiation.Negotiated.{Negotiated}
use Rattle.milter_wire.specs.declared.stage.Stage.{Stage}
use Rattle.milter_wire.specs.Reply.{encoding}
use Rattle.milter_wire.specs.Stages.{stage_of}
use Rattle.milter_fields.specs.declared.pair.Pair.{Pair}
use Rattle.milter_wire.specs.declared.options.Options.{Options}
use Rattle.milter_mail.specs.Macros.{Macros}
use Rattle.milter_mail.specs.Steps.{macros_at}
use Rattle.milter_protocol.specs.declared.answer.Answer.{Answer}
use Rattle.milter_protocol.specs.Behavior.{Behavior, exchange_of}
use Rattle.milter_protocol.specs.Dialogue.{are_all_refused}
use Rattle.milter_protocol.specs.Exchanges.{Exchange, commands_of, onto}
use Rattle.milter_protocol.specs.Replies.{options_reply, replies_of_answer}
use Rattle.milter_mta_connection.specs.declared.filter_event.Fed.{Fed}
use Rattle.milter_mta_connection.specs.Received.{After, received}
use Rattle.milter_mta_connection.specs.declared.call_outcome.CallFault.{CallFault}
use Rattle.milter_mta_connection.specs.Calls.{after, queued_by}
use Rattle.milter_mta_connection.specs.Calls.Call.{Feed, Sent, StageCommand}
use Rattle.milter_mta_connection.specs.Connection.{Connection, fault_at, fresh}

-- A connection; what was sent of the message, after what was sent about its client, with the filter's answers, the
-- latest first; what the filter's bytes came to, piece by piece; and why calls were refused.
pub record Conversation : Type 0 where
  pub connection : Connection
  pub transcript : List Exchange
  pub fed : List Fed
  pub faults : List CallFault

-- ---- the filter

-- the exchanges about these packets, in order, after those before them, the latest first
abbrev pub exchanges_about : Behavior → Negotiated → List Exchange → List Command → List Exchange
exchanges_about b negotiated before [] = []
exchanges_about b negotiated before (command ∷ others) =
    let exchange = exchange_of b negotiated (commands_of before) command in
    exchange ∷ exchanges_about b negotiated (exchange ∷ before) others

-- the bytes of an answer
abbrev pub answer_bytes : Option Answer → List ℕ
answer_bytes answer = flat_map encoding (replies_of_answer answer)

-- the bytes of the answers of these exchanges
abbrev pub bytes_back : List Exchange → List ℕ
bytes_back exchanges = flat_map (λ exchange. answer_bytes exchange.answer) exchanges

-- ---- one call

-- all that is pending was sent
abbrev pub all_sent : Connection → Connection
all_sent c = after (Sent (length c.channel.pending)) c

abbrev pub fed_of : After → Fed
fed_of a = record { event = a.event; loss = a.loss }

-- these bytes came, in one piece, if there are some
abbrev pub with_bytes : List ℕ → Conversation → Conversation
with_bytes [] t = t
with_bytes (byte ∷ bytes) t =
    record t {
      connection = after (Feed (byte ∷ bytes)) t.connection;
      fed = t.fed ++ fed_of (received t.connection.channel (byte ∷ bytes)) ∷ [];
    }

-- these packets, which are all that is pending, were sent, and all that the filter answers came
abbrev pub with_packets : Behavior → Negotiated → List Command → Conversation → Conversation
with_packets b negotiated packets t =
    let exchanges = exchanges_about b negotiated t.transcript packets in
    with_bytes (bytes_back exchanges)
    (record t { connection = all_sent t.connection; transcript = onto exchanges t.transcript })

-- why a call for a command is refused
abbrev pub faults_at : Option Stage → Connection → List CallFault
faults_at None c = []
faults_at (Some stage) c = option_to_list (fault_at stage c)

-- a command was called for, with these macros
abbrev pub called : Command → List Pair → Conversation → Conversation
called command pairs t =
    record t {
      connection = after (StageCommand command pairs) t.connection;
      faults = t.faults ++ faults_at (stage_of command) t.connection;
    }

-- the packets that a call for a command queues
abbrev pub packets_of : Command → List Pair → Conversation → List Command
packets_of command pairs t = queued_by (StageCommand command pairs) t.connection

-- a command was called for, its packets were sent, and all that the filter answers came
abbrev pub with_call : Behavior → Negotiated → Command → List Pair → Conversation → Conversation
with_call b negotiated command pairs t =
    with_packets b negotiated (packets_of command pairs t) (called command pairs t)

-- ---- one call after the other

-- the macros that a mail server has for a command of this stage
abbrev pub pairs_at : Macros → Option Stage → List Pair
pairs_at macros None = []
pairs_at macros (Some stage) = macros_at macros stage

-- after these packets no recipient is left, since the filter refused all of them
abbrev pub are_refused_with : List Command → List Exchange → List Command → Bool
are_refused_with [] transcript left = false
are_refused_with (command ∷ others) transcript left = are_all_refused transcript left

-- these commands were called for, in order, with the macros of their stages, until all recipients were refused
unfoldable pub with_calls : Behavior → Negotiated → Macros → List Command → Conversation → Conversation
with_calls b negotiated macros [] t = t
with_calls b negotiated macros (command ∷ left) t =
    let pairs = pairs_at macros (stage_of command) in
    let next = with_call b negotiated command pairs t in
    if are_refused_with (packets_of command pairs t) next.transcript left then next
    else with_calls b negotiated macros left next

-- ---- the start of a connection

-- the offer was sent, and the filter's reply to it came
abbrev pub opened : Options → Negotiated → Conversation
opened offer negotiated =
    with_bytes (encoding (options_reply negotiated))
    (record { connection = all_sent (fresh offer); transcript = []; fed = []; faults = [] })
