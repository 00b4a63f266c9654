-- One call: what is queued is sent, and what the filter answers is given.
use Rattle.std.specs.Prelude.{if◌then◌else◌}
use Rattle.std.proofs.Common.{◌≡◌, ◌≢◌, ◌+◌, ℕ, Bool, true, false, List, map, [], ◌∷◌, ◌++◌, length, Option, None, Some, refl, sym, ap, ◌∙◌, arith, append-nil, length-append}
use Rattle.std.proofs.Common.{drop_of_length-le}
use Rattle.std.specs.List.{flat_map}
use Rattle.std.specs.Option.{option_to_list}
use Rattle.milter_fields.specs.Number.{number}
use Rattle.milter_wire.specs.declared.options.Options.{Options}
use Rattle.milter_wire.specs.declared.command.Command.{Command}
use Rattle.milter_wire.specs.declared.command.Command.TheVariants as commands
use Rattle.milter_wire.specs.declared.negotiation.Negotiated.{Negotiated}
use Rattle.milter_wire.specs.declared.reply.Reply.{Reply}
use Rattle.milter_wire.specs.declared.stage.Stage.{Stage}
use Rattle.milter_wire.specs.declared.verdict.Verdict.{Verdict}
use Rattle.milter_wire.specs.Negotiation.{has_leading_space, is_answered, is_asked_at}
use Rattle.milter_wire.specs.Command as sent_to
use Rattle.milter_wire.specs.Reply.{code_of, encoding, payload_of}
use Rattle.milter_wire.specs.Stages.{macro_command_of, stage_of}
use Rattle.milter_wire.specs.Verdicts as verdicts
use Rattle.milter_fields.specs.declared.pair.Pair.{Pair}
use Rattle.milter_message.specs.declared.edit.Edit.{Edit}
use Rattle.milter_message.specs.EditReplies as edits
use Rattle.milter_mail.specs.Steps.{macro_step}
use Rattle.milter_protocol.specs.declared.answer.Answer.{Answer}
use Rattle.milter_protocol.specs.Behavior.{Behavior, answer_to, exchange_of}
use Rattle.milter_protocol.specs.Exchanges.{Exchange, commands_of, onto}
use Rattle.milter_protocol.specs.Lawful.{IsLawful}
use Rattle.milter_protocol.specs.Permitted.{permitted}
use Rattle.milter_protocol.specs.Seen.{Seen, seen}
use Rattle.milter_mta_connection.specs.declared.channel_state.ExpectedReply.{ExpectedReply}
use Rattle.milter_mta_connection.specs.declared.channel_state.ExpectedReply.TheVariants as expects
use Rattle.milter_mta_connection.specs.declared.filter_event.Fed.{Fed}
use Rattle.milter_mta_connection.specs.Channel.{Channel, expected_by, expected_of, is_unknown, queue_all, without_edits}
use Rattle.milter_mta_connection.specs.Received.{After, received}
use Rattle.milter_mta_connection.specs.declared.call_outcome.CallFault.{CallFault}
use Rattle.milter_mta_connection.specs.declared.phase.Phase.{Phase}
use Rattle.milter_mta_connection.specs.Calls.{after, called_at, fed_by, queued_at, queued_unless, unless}
use Rattle.milter_mta_connection.specs.Calls.Call.{Feed}
use Rattle.milter_mta_connection.specs.Connection.{Connection, abort_before, after_command, fault_at, is_left_out, packets_for, pairs_for, phase_after, rank_after}
use Rattle.milter_mta_connection.specs.Connection as connections
use Rattle.milter_mta_connection.specs.SessionCalls.{answered, taken}
use Rattle.milter_mta_connection.specs.Conversations.{Conversation, answer_bytes, exchanges_about, faults_at, fed_of, packets_of, with_bytes, with_call, with_packets}
use Rattle.milter_mta_outcome.proofs.ReceivedAnswers.{IsReceived, permitted-received}
use Rattle.milter_mta_connection.proofs.Answers.{ReadsBack, answer-received, idle, waiting}

-- ---- bytes

packet-some : (reply : Reply) (others more : List ℕ) → (encoding reply ++ others) ++ more ≢ []
packet-some reply others more none =
    let is = length-append (number (length (payload_of reply) + 1)) (code_of reply ∷ payload_of reply) in
    let first = length-append (encoding reply) others in
    let all = length-append (encoding reply ++ others) more in
    let no = ap (λ (l : List ℕ). length l) none in
    absurd (omega (arith, is, first, all, no))

pub reply-some : (reply : Reply) → encoding reply ≢ []
reply-some reply none = packet-some reply [] [] (append-nil (encoding reply ++ []) ∙ append-nil (encoding reply) ∙ none)

replies-some : (es : List Edit) (verdict : Verdict) (more : List ℕ) → flat_map encoding (map edits.reply_of es ++ verdicts.reply_of verdict ∷ []) ++ more ≢ []
replies-some [] verdict more = packet-some (verdicts.reply_of verdict) [] more
replies-some (edit ∷ es) verdict more = packet-some (edits.reply_of edit) (flat_map encoding (map edits.reply_of es ++ verdicts.reply_of verdict ∷ [])) more

-- bytes that come, and there are some
abbrev pub fed_with : List ℕ → Conversation → Conversation
fed_with bytes t = record t { connection = after (Feed bytes) t.connection; fed = t.fed ++ fed_of (received t.connection.channel bytes) ∷ [] }

pub with-some : (bytes : List ℕ) (t : Conversation) → bytes ≢ [] → with_bytes bytes t ≡ fed_with bytes t
with-some [] t some = absurd (some refl)
with-some (byte ∷ bytes) t some = refl

-- ---- one packet

module _ (offer : Options) (negotiated : Negotiated) where
  -- nothing is pending or owed
  abbrev pub at : Phase → ℕ → List Edit → List Exchange → List Fed → List CallFault → Conversation
  at phase last es before fed faults =
      record {
        connection = record { channel = idle offer negotiated es; phase = phase; last_rank = last };
        transcript = before;
        fed = fed;
        faults = faults;
      }

  -- these bytes are pending, the last of them those of the command
  abbrev pub sending : Command → List ℕ → Channel
  sending command bytes = record (idle offer negotiated []) { expected = expected_of (Some negotiated) command; pending = bytes }

  abbrev pub at_sending : Command → List ℕ → Phase → ℕ → List Exchange → List Fed → List CallFault → Conversation
  at_sending command bytes phase last before fed faults =
      record {
        connection = record { channel = sending command bytes; phase = phase; last_rank = last };
        transcript = before;
        fed = fed;
        faults = faults;
      }

  module _ (reads : ReadsBack) (b : Behavior) (lawful : IsLawful b) where
    abbrev pub next : List Exchange → Command → Exchange
    next before command = exchange_of b negotiated (commands_of before) command

    abbrev pub shown : List Exchange → Command → Seen
    shown before command = seen (has_leading_space negotiated) (command ∷ commands_of before)

    -- a command of this stage, and its answer
    pub answer-at : (command : Command) (stage : Stage) (before : List Exchange) → stage_of command ≡ Some stage
        → (next before command).answer ≡ answer_to b negotiated (Some stage) (is_answered negotiated stage) (shown before command)
    answer-at command stage before at_stage = ap (λ (s : Option Stage). answer_to b negotiated s (is_asked_at negotiated s) (shown before command)) at_stage

    pub decided : (stage : Stage) (shown : Seen) → IsReceived negotiated stage (permitted negotiated (b.decide stage shown))
    decided stage shown = permitted-received negotiated stage (b.decide stage shown) (lawful.answers stage shown)

    abbrev sent_with : ExpectedReply → Phase → ℕ → List Exchange → List Fed → List CallFault → Conversation
    sent_with expected phase last before fed faults =
        record {
          connection = record { channel = record (idle offer negotiated []) { expected = expected }; phase = phase; last_rank = last };
          transcript = before;
          fed = fed;
          faults = faults;
        }

    by-answered : (asked : Bool) (stage : Stage) (shown : Seen) (phase : Phase) (last : ℕ) (before : List Exchange) (fed : List Fed) (faults : List CallFault)
        → with_bytes (answer_bytes (answer_to b negotiated (Some stage) asked shown) ++ []) (sent_with (if asked then expects.Verdict stage else expects.Nothing) phase last before fed faults)
        ≡ answered stage (answer_to b negotiated (Some stage) asked shown) (at phase last [] before fed faults)
    by-answered false stage shown phase last before fed faults = refl
    by-answered true stage shown phase last before fed faults =
        let answer : Answer = permitted negotiated (b.decide stage shown) in
        let bytes : List ℕ = answer_bytes (Some answer) in
        let c : Connection = record { channel = waiting offer negotiated stage []; phase = phase; last_rank = last } in
        with-some (bytes ++ []) (sent_with (expects.Verdict stage) phase last before fed faults) (replies-some answer.edits answer.verdict [])
        ∙ ap (λ (bs : List ℕ). fed_with bs (sent_with (expects.Verdict stage) phase last before fed faults)) (append-nil bytes)
        ∙ ap (λ (a : After). record { connection = fed_by a c; transcript = before; fed = fed ++ fed_of a ∷ []; faults = faults }) (answer-received offer negotiated reads stage answer (decided stage shown))

    pub one-packet : (command : Command) (stage : Stage) (bytes : List ℕ) (phase : Phase) (last : ℕ) (before : List Exchange) (fed : List Fed) (faults : List CallFault)
        → stage_of command ≡ Some stage
        → with_packets b negotiated (command ∷ []) (at_sending command bytes phase last before fed faults)
        ≡ answered stage (next before command).answer (at phase last [] (next before command ∷ before) fed faults)
    one-packet command stage bytes phase last before fed faults at_stage =
        ap (λ (p : List ℕ). with_bytes (answer_bytes (next before command).answer ++ [])
        (record {
          connection = record { channel = sending command p; phase = phase; last_rank = last };
          transcript = next before command ∷ before;
          fed = fed;
          faults = faults;
        })) (drop_of_length-le bytes {i = length bytes} (omega arith))
        ∙ ap (λ (s : Option Stage). with_bytes (answer_bytes (answer_to b negotiated s (is_asked_at negotiated s) (shown before command)) ++ [])
        (sent_with (expected_by negotiated s (is_unknown command)) phase last (next before command ∷ before) fed faults)) at_stage
        ∙ by-answered (is_answered negotiated stage) stage (shown before command) phase last (next before command ∷ before) fed faults
        ∙ ap (λ (answer : Option Answer). answered stage answer (at phase last [] (next before command ∷ before) fed faults)) (sym (answer-at command stage before at_stage))

    -- the packets of a command, that of its macros first
    sent-packets : (code : Option ℕ) (pairs : List Pair) (command : Command) (stage : Stage) (phase : Phase) (last : ℕ) (es : List Edit) (before : List Exchange) (fed : List Fed) (faults : List CallFault)
        → stage_of command ≡ Some stage
        → with_packets b negotiated (macro_step code pairs ++ command ∷ [])
        (record {
          connection = record {
            channel = without_edits (connections.with_packets false code command pairs (idle offer negotiated es));
            phase = phase;
            last_rank = last;
          };
          transcript = before;
          fed = fed;
          faults = faults;
        })
        ≡ (let so_far = onto (exchanges_about b negotiated before (macro_step code pairs)) before in
        answered stage (next so_far command).answer (at phase last [] (next so_far command ∷ so_far) fed faults))
    sent-packets None pairs command stage phase last es before fed faults at_stage =
        one-packet command stage ([] ++ sent_to.encoding command) phase last before fed faults at_stage
    sent-packets (Some code) [] command stage phase last es before fed faults at_stage =
        one-packet command stage ([] ++ sent_to.encoding command) phase last before fed faults at_stage
    sent-packets (Some code) (pair ∷ pairs) command stage phase last es before fed faults at_stage =
        let macros : Command = commands.Macro code (pair ∷ pairs) in
        one-packet command stage (([] ++ sent_to.encoding macros) ++ sent_to.encoding command) phase last (next before macros ∷ before) fed faults at_stage

    -- ---- one call

    -- a call that is not refused
    with_call-is : (command : Command) (stage : Stage) (pairs : List Pair) (t : Conversation) → stage_of command ≡ Some stage → fault_at stage t.connection ≡ None
        → with_call b negotiated command pairs t
        ≡ with_packets b negotiated (packets_for stage command (pairs_for t.connection stage pairs) t.connection)
        (record t { connection = after_command stage command (pairs_for t.connection stage pairs) t.connection })
    with_call-is command stage pairs t at_stage taken =
        let c : Connection = t.connection in
        let asked : List Pair = pairs_for c stage pairs in
        ap (λ (s : Option Stage). with_packets b negotiated (queued_at s command pairs c)
        (record t { connection = called_at s command pairs c; faults = t.faults ++ faults_at s c })) at_stage
        ∙ ap (λ (f : Option CallFault). with_packets b negotiated (queued_unless f (packets_for stage command asked c))
        (record t { connection = unless f (after_command stage command asked c) c; faults = t.faults ++ option_to_list f })) taken
        ∙ ap (λ (fs : List CallFault). with_packets b negotiated (packets_for stage command asked c)
        (record t { connection = after_command stage command asked c; faults = fs })) (append-nil t.faults)

    module _ (command : Command) (stage : Stage) (pairs : List Pair) (phase : Phase) (last : ℕ) (es : List Edit) (before : List Exchange) (fed : List Fed) (faults : List CallFault)
        (at_stage : stage_of command ≡ Some stage) (taken : fault_at stage (at phase last es before fed faults).connection ≡ None)
        (no_abort : abort_before phase stage ≡ []) where
      abbrev asked : List Pair
      asked = pairs_for (at phase last es before fed faults).connection stage pairs

      abbrev code : Option ℕ
      code = macro_command_of stage

      abbrev after_packets : Bool → List Command → Conversation
      after_packets left_out aborts =
          with_packets b negotiated (aborts ++ connections.packets_of left_out code command asked)
          (record {
            connection = record {
              channel = without_edits (connections.with_packets left_out code command asked (queue_all aborts (idle offer negotiated es)));
              phase = phase_after phase stage;
              last_rank = rank_after phase last stage;
            };
            transcript = before;
            fed = fed;
            faults = faults;
          })

      call-is : (left_out : Bool) → is_left_out (Some negotiated) phase stage ≡ left_out
          → with_call b negotiated command pairs (at phase last es before fed faults) ≡ after_packets left_out []
      call-is left_out is =
          with_call-is command stage pairs (at phase last es before fed faults) at_stage taken
          ∙ ap (after_packets (is_left_out (Some negotiated) phase stage)) no_abort
          ∙ ap (λ (l : Bool). after_packets l []) is

      -- nothing is sent of it
      pub left-out-call : is_left_out (Some negotiated) phase stage ≡ true
          → with_call b negotiated command pairs (at phase last es before fed faults)
          ≡ at (phase_after phase stage) (rank_after phase last stage) [] before fed faults
      left-out-call is =
          call-is true is
          ∙ ap (λ (bytes : List ℕ). record {
            connection = record {
              channel = record (idle offer negotiated []) { pending = bytes };
              phase = phase_after phase stage;
              last_rank = rank_after phase last stage;
            };
            transcript = before;
            fed = fed;
            faults = faults;
          }) (drop_of_length-le none {i = length none} (omega arith))
        where
          none : List ℕ
          none = []

      -- the exchanges before it, that about its macros the latest
      abbrev pub so_far : List Exchange
      so_far = onto (exchanges_about b negotiated before (macro_step code asked)) before

      pub sent-call : is_left_out (Some negotiated) phase stage ≡ false
          → with_call b negotiated command pairs (at phase last es before fed faults)
          ≡ answered stage (next so_far command).answer (at (phase_after phase stage) (rank_after phase last stage) [] (next so_far command ∷ so_far) fed faults)
      sent-call is =
          call-is false is
          ∙ sent-packets code asked command stage (phase_after phase stage) (rank_after phase last stage) es before fed faults at_stage

      -- the packets that it queues
      packets-are : (left_out : Bool) → is_left_out (Some negotiated) phase stage ≡ left_out
          → packets_of command pairs (at phase last es before fed faults) ≡ connections.packets_of left_out code command asked
      packets-are left_out is =
          let c : Connection = (at phase last es before fed faults).connection in
          ap (λ (s : Option Stage). queued_at s command pairs c) at_stage
          ∙ ap (λ (f : Option CallFault). queued_unless f (packets_for stage command asked c)) taken
          ∙ ap (λ (l : List Command). l ++ connections.packets_of (is_left_out (Some negotiated) phase stage) code command asked) no_abort
          ∙ ap (λ (l : Bool). connections.packets_of l code command asked) is

      pub no-packets : is_left_out (Some negotiated) phase stage ≡ true → packets_of command pairs (at phase last es before fed faults) ≡ []
      no-packets is = packets-are true is

      pub packets-sent : is_left_out (Some negotiated) phase stage ≡ false
          → packets_of command pairs (at phase last es before fed faults) ≡ macro_step code asked ++ command ∷ []
      packets-sent is = packets-are false is
