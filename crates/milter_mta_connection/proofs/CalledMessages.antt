-- What is called for of a message, and of a session, is what its plan has; and where the calls begin.
use Rattle.std.proofs.Common.{◌≡◌, ◌≢◌, ◌≤◌, ℕ, true, false, List, [], ◌∷◌, ◌++◌, length, map, Option, None, Some, Result, Ok, refl, sym, ap, ◌∙◌, subst, arith, append-nil, append_assoc}
use Rattle.std.proofs.Common.{drop_of_length-le}
use Rattle.std.specs.List.{flat_map, list_any}
use Rattle.std.proofs.lemmas.List.Concat.{flat_map-append}
use Rattle.std.proofs.lemmas.List.Folds.{flat_map-map}
use Rattle.milter_wire.specs.declared.options.Options.{Options}
use Rattle.milter_wire.specs.declared.command.Command.{Command}
use Rattle.milter_wire.specs.declared.command.Command.TheVariants as commands
use Rattle.milter_wire.specs.declared.negotiation.Negotiated.{Negotiated}
use Rattle.milter_wire.specs.declared.stage.Stage.{Stage}
use Rattle.milter_wire.specs.declared.stage.Stage.TheVariants as stages
use Rattle.milter_wire.specs.Stages.{stage_of}
use Rattle.milter_fields.specs.declared.pair.Pair.{Pair}
use Rattle.milter_wire.specs.Command as sent_to
use Rattle.milter_wire.specs.Negotiation.{has_leading_space}
use Rattle.milter_wire.specs.Reply.{Fits, encoding}
use Rattle.milter_fields.specs.declared.header.Header.{Header}
use Rattle.milter_fields.specs.declared.path.Path.{Path}
use Rattle.milter_message.specs.declared.edit.Edit.{Edit}
use Rattle.milter_message.specs.Chunks.{chunks_of}
use Rattle.milter_message.specs.LeadingSpace.{sent_header}
use Rattle.milter_message.specs.MailObject.{MailObject}
use Rattle.milter_mail.specs.ChosenMacros.{chosen_macros}
use Rattle.milter_mail.specs.Macros.{Macros}
use Rattle.milter_mail.specs.MailSession.{MailSession}
use Rattle.milter_mail.specs.Plan.{macros_of, plan}
use Rattle.milter_mail.specs.Steps.{message_steps, step}
use Rattle.milter_protocol.specs.Behavior.{Behavior}
use Rattle.milter_protocol.specs.Dialogue.{dialogue_with, is_skipping}
use Rattle.milter_protocol.specs.Exchanges.{Exchange}
use Rattle.milter_protocol.specs.Lawful.{IsLawful}
use Rattle.milter_protocol.specs.Replies.{options_reply}
use Rattle.milter_mta_outcome.specs.declared.loss.MtaFault.{MtaFault}
use Rattle.milter_mta_outcome.specs.ReceivedReplies.{options_received}
use Rattle.milter_mta_connection.specs.declared.channel_state.ExpectedReply.TheVariants as expects
use Rattle.milter_mta_connection.specs.declared.filter_event.Fed.{Fed}
use Rattle.milter_mta_connection.specs.declared.filter_event.FilterEvent.TheVariants as events
use Rattle.milter_mta_connection.specs.Channel.{Channel}
use Rattle.milter_mta_connection.specs.Received.{After, negotiated_on}
use Rattle.milter_mta_connection.specs.declared.call_outcome.CallFault.{CallFault}
use Rattle.milter_mta_connection.specs.declared.phase.Phase.{Phase}
use Rattle.milter_mta_connection.specs.declared.phase.Phase.TheVariants.{ClientOver, Closed, NoMessage}
use Rattle.milter_mta_connection.specs.Calls.{after, called_at, fed_by, queued_at, queued_by, queued_unless, unless}
use Rattle.milter_mta_connection.specs.Calls.Call.{StageCommand}
use Rattle.milter_mta_connection.specs.Connection.{Connection, abort_before, after_command, fault_at, is_left_out, packets_for, pairs_for}
use Rattle.milter_mta_connection.proofs.QueuedCommands.{idle-same, queue_all-pending, with_command-all}
use Rattle.milter_mta_connection.specs.SessionCalls.{IsGiven, IsQuiet, IsReady, client_calls, dialogue_about, message_calls, taken, with_exchange, with_message, with_session}
use Rattle.milter_mta_connection.specs.Conversations.{Conversation, fed_of, opened, with_bytes, with_call}
use Rattle.milter_mta_connection.proofs.Answers.{ReadsBack, idle, reply-received}
use Rattle.milter_mta_connection.proofs.CallStages.{message-order, session-order}
use Rattle.milter_mta_connection.proofs.CalledDialogues.{Start, exchanged}
use Rattle.milter_mta_connection.proofs.CalledStages.{steps, steps_for}
use Rattle.milter_mta_connection.proofs.GivenExchanges.{HasExchanged, about-client}
use Rattle.milter_mta_connection.proofs.OneCall.{at, left-out-call, reply-some, sent-call, with-some}

-- ---- plans

nested : (a b c d e f g : List Command) → ((((((a ++ b) ++ c) ++ d) ++ e) ++ f) ++ g) ≡ a ++ (b ++ (c ++ (d ++ (e ++ (f ++ g)))))
nested a b c d e f g =
    append_assoc (((((a ++ b) ++ c) ++ d) ++ e)) f g
    ∙ append_assoc ((((a ++ b) ++ c) ++ d)) e (f ++ g)
    ∙ append_assoc (((a ++ b) ++ c)) d (e ++ (f ++ g))
    ∙ append_assoc ((a ++ b)) c (d ++ (e ++ (f ++ g)))
    ∙ append_assoc a b (c ++ (d ++ (e ++ (f ++ g))))

module _ (negotiated : Negotiated) (macros : Macros) where
  abbrev each : Command → List Command
  each = steps_for negotiated macros

  -- the steps of one kind of part, and those of the others
  parts : {A : Type 0} (command : A → Command) (xs : List A) (others : List Command)
      → steps negotiated macros (map command xs ++ others) ≡ flat_map (λ x. each (command x)) xs ++ steps negotiated macros others
  parts command xs others =
      flat_map-append each (map command xs) others
      ∙ ap (λ (l : List Command). l ++ steps negotiated macros others) (flat_map-map each command xs)

  pub message-plan : (message : MailObject) → message_steps negotiated macros message ≡ steps negotiated macros (message_calls (has_leading_space negotiated) message)
  message-plan message =
      nested sender (flat_map (λ (recipient : Path). each (rcpt recipient)) message.recipients) data_command (flat_map (λ (h : Header). each (header h)) message.headers) eoh
      (flat_map (λ (chunk : List ℕ). each (body chunk)) (chunks_of message.body)) end
      ∙ ap (λ (l : List Command). sender ++ l)
      (ap (λ (l : List Command). flat_map (λ (recipient : Path). each (rcpt recipient)) message.recipients ++ (data_command ++ l)) from_headers
      ∙ sym (parts rcpt message.recipients (commands.DataCmd ∷ header_calls)))
    where
      rcpt : Path → Command
      rcpt recipient = commands.Rcpt recipient

      header : Header → Command
      header h = commands.Header (sent_header (has_leading_space negotiated) h)

      body : List ℕ → Command
      body chunk = commands.Body chunk

      sender : List Command
      sender = step negotiated macros stages.Mail (commands.Mail message.sender)

      data_command : List Command
      data_command = step negotiated macros stages.DataCmd commands.DataCmd

      eoh : List Command
      eoh = step negotiated macros stages.Eoh commands.Eoh

      end : List Command
      end = step negotiated macros stages.Eob (commands.Eob [])

      body_calls : List Command
      body_calls = map body (chunks_of message.body) ++ (commands.Eob [] ∷ [])

      header_calls : List Command
      header_calls = map header message.headers ++ (commands.Eoh ∷ body_calls)

      from_body : flat_map (λ (chunk : List ℕ). each (body chunk)) (chunks_of message.body) ++ end ≡ steps negotiated macros body_calls
      from_body =
          ap (λ (l : List Command). flat_map (λ (chunk : List ℕ). each (body chunk)) (chunks_of message.body) ++ l) (sym (append-nil end))
          ∙ sym (parts body (chunks_of message.body) (commands.Eob [] ∷ []))

      from_headers : flat_map (λ (h : Header). each (header h)) message.headers ++ (eoh ++ (flat_map (λ (chunk : List ℕ). each (body chunk)) (chunks_of message.body) ++ end))
          ≡ steps negotiated macros header_calls
      from_headers =
          ap (λ (l : List Command). flat_map (λ (h : Header). each (header h)) message.headers ++ (eoh ++ l)) from_body
          ∙ sym (parts header message.headers (commands.Eoh ∷ body_calls))

pub session-plan : (negotiated : Negotiated) (session : MailSession) (message : MailObject)
    → plan negotiated session message
    ≡ steps negotiated (macros_of negotiated session) (client_calls session.client session.helo ++ message_calls (has_leading_space negotiated) message)
session-plan negotiated session message =
    let macros : Macros = macros_of negotiated session in
    let connect : List Command = step negotiated macros stages.Connect (commands.Connect session.client) in
    let helo : List Command = step negotiated macros stages.Helo (commands.Helo session.helo) in
    append_assoc connect helo (message_steps negotiated macros message)
    ∙ ap (λ (l : List Command). connect ++ (helo ++ l)) (message-plan negotiated macros message)

-- ---- where the calls begin

pub quiet-is : (negotiated : Negotiated) (c : Channel) → IsQuiet negotiated c → c ≡ idle c.offer negotiated c.edits
quiet-is negotiated c is =
    sym (idle-same c is.idle)
    ∙ ap (λ (n : Option Negotiated). record c { negotiated = n; expected = expects.Nothing; pending = [] }) is.negotiated_is
    ∙ ap (λ (us : List ℕ). record c { negotiated = Some negotiated; expected = expects.Nothing; pending = []; unread = us }) is.none_unread

pub idle-quiet : (offer : Options) (negotiated : Negotiated) (es : List Edit) → IsQuiet negotiated (idle offer negotiated es)
idle-quiet offer negotiated es = record { negotiated_is = refl; idle = refl; none_unread = refl }

ready-is : (negotiated : Negotiated) (t : Conversation) → IsReady negotiated t.connection
    → t ≡ at t.connection.channel.offer negotiated NoMessage t.connection.last_rank t.connection.channel.edits t.transcript t.fed t.faults
ready-is negotiated t is =
    ap (λ (k : Channel). record t { connection = record t.connection { channel = k } }) (quiet-is negotiated t.connection.channel is.quiet)
    ∙ ap (λ (p : Phase). record t { connection = record t.connection { channel = idle t.connection.channel.offer negotiated t.connection.channel.edits; phase = p } }) is.phase_is

-- of a connection in any phase
pub quiet-at : (negotiated : Negotiated) (t : Conversation) → IsQuiet negotiated t.connection.channel
    → t ≡ at t.connection.channel.offer negotiated t.connection.phase t.connection.last_rank t.connection.channel.edits t.transcript t.fed t.faults
quiet-at negotiated t is =
    ap (λ (k : Channel). record t { connection = record t.connection { channel = k } }) (quiet-is negotiated t.connection.channel is)

-- the packets of a call are what is pending
packets-if : (fault : Option CallFault) (stage : Stage) (command : Command) (pairs : List Pair) (c : Connection) → c.channel.pending ≡ []
    → (unless fault (after_command stage command pairs c) c).channel.pending ≡ flat_map sent_to.encoding (queued_unless fault (packets_for stage command pairs c))
packets-if (Some fault) stage command pairs c none = none
packets-if None stage command pairs c none =
    ap (λ (k : Channel). k.pending) (with_command-all stage command pairs c)
    ∙ queue_all-pending c.channel (packets_for stage command pairs c)
    ∙ ap (λ (bytes : List ℕ). bytes ++ flat_map sent_to.encoding (packets_for stage command pairs c)) none

packets-at : (stage : Option Stage) (command : Command) (pairs : List Pair) (c : Connection) → c.channel.pending ≡ []
    → (called_at stage command pairs c).channel.pending ≡ flat_map sent_to.encoding (queued_at stage command pairs c)
packets-at None command pairs c none = none
packets-at (Some stage) command pairs c none = packets-if (fault_at stage c) stage command (pairs_for c stage pairs) c none

pub packets-pending : (command : Command) (pairs : List Pair) (c : Connection) → c.channel.pending ≡ []
    → (after (StageCommand command pairs) c).channel.pending ≡ flat_map sent_to.encoding (queued_by (StageCommand command pairs) c)
packets-pending command pairs c none = packets-at (stage_of command) command pairs c none

-- what was given, and where another message may begin
pub record IsGivenQuietly (negotiated : Negotiated) (exchanges : List Exchange) (before after : Conversation) : Type 0 where
  pub given : IsGiven exchanges before after
  pub quiet : IsQuiet negotiated after.connection.channel
  pub rank : after.connection.phase ≡ NoMessage → after.connection.last_rank ≤ 2
  pub no_loss : after.connection.phase ≢ Closed
  pub by_client : after.connection.phase ≡ ClientOver → list_any about-client exchanges ≡ true

given-by : (offer : Options) (negotiated : Negotiated) (exchanges : List Exchange) (before after : Conversation)
    → HasExchanged offer negotiated exchanges before.transcript before.fed before.faults after → IsGivenQuietly negotiated exchanges before after
given-by offer negotiated exchanges before after is =
    record {
      given = record {
        transcript = is.transcript_is;
        verdicts = is.fed_is;
        edits = ap (λ (k : Channel). k.edits) is.channel_is;
        no_faults = is.faults_is;
      };
      quiet = subst (IsQuiet negotiated) (sym is.channel_is) (idle-quiet offer negotiated _);
      rank = is.rank;
      no_loss = is.no_loss;
      by_client = is.by_client;
    }

module _ (reads : ReadsBack) (b : Behavior) (lawful : IsLawful b) (negotiated : Negotiated) where
  module _ (stage : Stage) (command : Command) (pairs : List Pair) (t : Conversation) (at_stage : stage_of command ≡ Some stage) (quiet : IsQuiet negotiated t.connection.channel)
      (taken_at : fault_at stage t.connection ≡ None) (no_abort : abort_before t.connection.phase stage ≡ []) where
    abbrev same : t ≡ at t.connection.channel.offer negotiated t.connection.phase t.connection.last_rank t.connection.channel.edits t.transcript t.fed t.faults
    same = quiet-at negotiated t quiet

    pub call-left-out : is_left_out (Some negotiated) t.connection.phase stage ≡ true
        → with_call b negotiated command pairs t ≡ record t { connection = taken stage t.connection }
    call-left-out left_out =
        subst (λ (u : Conversation). with_call b negotiated command pairs u ≡ record u { connection = taken stage u.connection }) (sym same)
        (left-out-call t.connection.channel.offer negotiated reads b lawful command stage pairs t.connection.phase t.connection.last_rank t.connection.channel.edits t.transcript t.fed t.faults at_stage
        (subst (λ (u : Conversation). fault_at stage u.connection ≡ None) same taken_at) no_abort left_out)

    pub call-sent : is_left_out (Some negotiated) t.connection.phase stage ≡ false
        → with_call b negotiated command pairs t ≡ with_exchange b negotiated stage command pairs t
    call-sent left_out =
        subst (λ (u : Conversation). with_call b negotiated command pairs u ≡ with_exchange b negotiated stage command pairs u) (sym same)
        (sent-call t.connection.channel.offer negotiated reads b lawful command stage pairs t.connection.phase t.connection.last_rank t.connection.channel.edits t.transcript t.fed t.faults at_stage
        (subst (λ (u : Conversation). fault_at stage u.connection ≡ None) same taken_at) no_abort left_out)

  pub message-given : (macros : Macros) (message : MailObject) (t : Conversation) → IsReady negotiated t.connection → list_any is_skipping t.transcript ≡ false
      → IsGivenQuietly negotiated (dialogue_about b negotiated macros message t.transcript) t (with_message b negotiated macros message t)
  message-given macros message t ready none_skipped =
      let offer : Options = t.connection.channel.offer in
      let last : ℕ = t.connection.last_rank in
      let es : List Edit = t.connection.channel.edits in
      let calls : List Command = message_calls (has_leading_space negotiated) message in
      let start : Start offer negotiated reads b lawful macros NoMessage last es t.transcript calls = record {
        going = refl;
        ordered = message-order last (has_leading_space negotiated) message ready.rank;
        skipping = none_skipped;
        rank = ready.rank;
        no_edits = λ none. absurd cc;
      } in
      given-by offer negotiated (dialogue_about b negotiated macros message t.transcript) t (with_message b negotiated macros message t)
      (subst (λ (before : Conversation). HasExchanged offer negotiated (dialogue_about b negotiated macros message t.transcript) t.transcript t.fed t.faults (with_message b negotiated macros message before)) (sym (ready-is negotiated t ready))
      (subst (λ (plan : List Command). HasExchanged offer negotiated (dialogue_with b negotiated t.transcript plan) t.transcript t.fed t.faults
      (with_message b negotiated macros message (at offer negotiated NoMessage last es t.transcript t.fed t.faults))) (sym (message-plan negotiated (chosen_macros negotiated.lists macros) message))
      (exchanged offer negotiated reads b lawful macros calls NoMessage last es t.transcript t.fed t.faults start)))

  -- ---- the start of a connection

  -- the options are owed
  abbrev owing : Options → Channel
  owing offer = record { offer = offer; negotiated = None; expected = expects.Options; edits = []; pending = []; unread = [] }

  abbrev offering : Options → Channel → Conversation
  offering offer c = record { connection = record { channel = c; phase = NoMessage; last_rank = 0 }; transcript = []; fed = []; faults = [] }

  -- after the reply to the offer
  pub opened-is : (offer : Options) → Fits (options_reply negotiated) → options_received offer (options_reply negotiated) ≡ Ok negotiated
      → opened offer negotiated ≡ at offer negotiated NoMessage 0 [] [] (record { event = events.Negotiated; loss = None } ∷ []) []
  opened-is offer fits received =
      let bytes : List ℕ = sent_to.encoding (commands.Options offer) in
      let back : List ℕ = encoding (options_reply negotiated) in
      ap (λ (p : List ℕ). with_bytes back (offering offer (record (owing offer) { pending = p }))) (drop_of_length-le bytes {i = length bytes} (omega arith))
      ∙ with-some back (offering offer (owing offer)) (reply-some (options_reply negotiated))
      ∙ ap (λ (a : After). record {
        connection = fed_by a (record { channel = owing offer; phase = NoMessage; last_rank = 0 });
        transcript = [];
        fed = fed_of a ∷ [];
        faults = [];
      })
      (reply-received reads (owing offer) events.Nothing (options_reply negotiated) refl refl fits
      ∙ ap (λ (r : Result Negotiated MtaFault). negotiated_on r events.Nothing (owing offer)) received)

  pub session-given : (offer : Options) (session : MailSession) (message : MailObject) → Fits (options_reply negotiated) → options_received offer (options_reply negotiated) ≡ Ok negotiated
      → IsGivenQuietly negotiated (dialogue_with b negotiated [] (plan negotiated session message)) (opened offer negotiated) (with_session b negotiated session message (opened offer negotiated))
  session-given offer session message fits received =
      let start_fed : List Fed = record { event = events.Negotiated; loss = None } ∷ [] in
      let begun : Conversation = at offer negotiated NoMessage 0 [] [] start_fed [] in
      let calls : List Command = client_calls session.client session.helo ++ message_calls (has_leading_space negotiated) message in
      let start : Start offer negotiated reads b lawful session.macros NoMessage 0 [] [] calls = record {
        going = refl;
        ordered = session-order session.client session.helo (has_leading_space negotiated) message;
        skipping = refl;
        rank = omega arith;
        no_edits = λ none. refl;
      } in
      let all : List Exchange = dialogue_with b negotiated [] (plan negotiated session message) in
      subst (λ (t : Conversation). IsGivenQuietly negotiated all t (with_session b negotiated session message t)) (sym (opened-is offer fits received))
      (given-by offer negotiated all begun (with_session b negotiated session message begun)
      (subst (λ (steps : List Command). HasExchanged offer negotiated (dialogue_with b negotiated [] steps) [] start_fed [] (with_session b negotiated session message begun))
      (sym (session-plan negotiated session message))
      (exchanged offer negotiated reads b lawful session.macros calls NoMessage 0 [] [] start_fed [] start)))
