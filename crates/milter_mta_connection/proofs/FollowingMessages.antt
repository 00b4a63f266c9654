-- The messages after the first one on a connection.
use Rattle.std.proofs.Common.{◌≡◌, ◌≢◌, ◌≤◌, ℕ, Bool, true, false, cond, ◌||◌, List, [], ◌∷◌, ◌++◌, drop, length, Option, Some, if◌then◌else◌, refl, sym, ap, ◌∙◌, subst, arith, append-nil}
use Rattle.std.proofs.Common.{drop_of_length-le}
use Rattle.std.specs.List.{list_any}
use Rattle.std.proofs.lemmas.Bool.{true≢false}
use Rattle.std.proofs.lemmas.Option.{same_Some}
use Rattle.std.proofs.lemmas.List.Folds.{list_any-append}
use Rattle.milter_wire.specs.declared.options.Options.{Options}
use Rattle.milter_wire.specs.declared.command.Command.{Command}
use Rattle.milter_wire.specs.declared.command.Command.TheVariants as commands
use Rattle.milter_wire.specs.declared.negotiation.Negotiated.{Negotiated}
use Rattle.milter_wire.specs.declared.stage.Stage.{Stage}
use Rattle.milter_wire.specs.declared.stage.Stage.TheVariants as stages
use Rattle.milter_wire.specs.declared.verdict.Verdict.{Verdict}
use Rattle.milter_wire.specs.Command as sent_to
use Rattle.milter_wire.specs.Negotiation.{has_leading_space, is_asked_at, is_sent}
use Rattle.milter_wire.specs.Stages.{macro_command_of, stage_of}
use Rattle.milter_fields.specs.declared.pair.Pair.{Pair}
use Rattle.milter_message.specs.MailObject.{MailObject}
use Rattle.milter_mail.specs.ChosenMacros.{chosen_macros}
use Rattle.milter_mail.specs.Macros.{Macros}
use Rattle.milter_mail.specs.Steps.{macro_step, macros_at, message_steps}
use Rattle.milter_protocol.specs.Behavior.{Behavior, answer_to, exchange_of}
use Rattle.milter_protocol.specs.Commands.{is_of_connection}
use Rattle.milter_protocol.specs.Dialogue.{dialogue_with, is_closed, is_left_out, is_skipping}
use Rattle.milter_protocol.specs.Exchanges.{Exchange, commands_of, onto}
use Rattle.milter_protocol.specs.Lawful.{IsLawful}
use Rattle.milter_protocol.specs.Permitted.{permitted_verdict}
use Rattle.milter_protocol.specs.Seen.{Seen, seen}
use Rattle.milter_protocol.specs.StageOrder.{rank_of}
use Rattle.milter_protocol.specs.Verdicts.{has_verdict, is_skip}
use Rattle.milter_mta_connection.specs.declared.channel_state.ExpectedReply.TheVariants as expects
use Rattle.milter_mta_connection.specs.Channel.{Channel, is_idle_by}
use Rattle.milter_mta_connection.specs.declared.phase.Phase.{Phase}
use Rattle.milter_mta_connection.specs.declared.phase.Phase.TheVariants.{NoMessage, InMessage, Skipping, MessageOver, ClientOver, Closed}
use Rattle.milter_mta_connection.specs.Calls.{after}
use Rattle.milter_mta_connection.specs.Calls.Call.{Abort}
use Rattle.milter_mta_connection.specs.Connection.{Connection, is_due_abort, is_of_client}
use Rattle.milter_mta_connection.specs.SessionCalls.{IsGiven, IsQuiet, IsReady, dialogue_about, with_message}
use Rattle.milter_mta_connection.specs.Conversations.{Conversation, all_sent}
use Rattle.milter_mta_connection.specs.Messages.{AreGiven, AreIgnored, between, given_up, opening_of, with_next}
use Rattle.milter_mta_outcome.proofs.ReceivedAnswers.{permitted-received}
use Rattle.milter_mta_connection.proofs.Answers.{ReadsBack, idle}
use Rattle.milter_mta_connection.proofs.CallStages.{Ordered, is_late, in-message, late, message-order, parts-after, parts-order, rank-follows}
use Rattle.milter_mta_connection.proofs.CalledDialogues.{client-over-first}
use Rattle.milter_mta_connection.proofs.CalledStages.{skip-body, steps, steps_at, steps_for}
use Rattle.milter_mta_connection.proofs.GivenExchanges.{about-client, is_client_stage}
use Rattle.milter_mta_connection.proofs.CalledMessages.{IsGivenQuietly, idle-quiet, message-given, message-plan, quiet-at, quiet-is}
use Rattle.milter_mta_connection.proofs.OneCall.{at}

-- ---- what a dialogue is about

or-left : (a b : Bool) → (a || b) ≡ false → a ≡ false
or-left true b e = e
or-left false b e = refl

or-right : (a b : Bool) → (a || b) ≡ false → b ≡ false
or-right true b e = absurd (true≢false e)
or-right false b e = e

module _ (b : Behavior) (negotiated : Negotiated) where
  abbrev next : List Exchange → Command → Exchange
  next before command = exchange_of b negotiated (commands_of before) command

  -- none of its commands is of a kind of which none is left
  none-about : (q : Command → Bool) (left : List Command) (before : List Exchange) → list_any q left ≡ false
      → list_any (λ (e : Exchange). q e.command) (dialogue_with b negotiated before left) ≡ false
  unfolding dialogue_with
  none-about q [] before none = refl
  none-about q (command ∷ left) before none =
      by_out (is_left_out before command) (none-about q left before (or-right (q command) (list_any q left) none)) (none-about q left (next before command ∷ before) (or-right (q command) (list_any q left) none))
    where
      by_closed : (closed : Bool) → list_any (λ (e : Exchange). q e.command) (dialogue_with b negotiated (next before command ∷ before) left) ≡ false
          → list_any (λ (e : Exchange). q e.command) (if closed then [] else dialogue_with b negotiated (next before command ∷ before) left) ≡ false
      by_closed true is = refl
      by_closed false is = is

      by_out : (out : Bool) → list_any (λ (e : Exchange). q e.command) (dialogue_with b negotiated before left) ≡ false
          → list_any (λ (e : Exchange). q e.command) (dialogue_with b negotiated (next before command ∷ before) left) ≡ false
          → list_any (λ (e : Exchange). q e.command) (if out then dialogue_with b negotiated before left
          else next before command ∷ (if is_closed (next before command ∷ before) left then [] else dialogue_with b negotiated (next before command ∷ before) left)) ≡ false
      by_out true skipped goes = skipped
      by_out false skipped goes =
          ap (λ (k : Bool). k || list_any (λ (e : Exchange). q e.command) (if is_closed (next before command ∷ before) left then [] else dialogue_with b negotiated (next before command ∷ before) left))
          (or-left (q command) (list_any q left) none)
          ∙ by_closed (is_closed (next before command ∷ before) left) goes

-- ---- a message is not about the client

late-other : (stage : Stage) → is_late stage ≡ true → is_of_client stage ≡ false
late-other stages.Connect e = absurd (true≢false (sym e))
late-other stages.Helo e = absurd (true≢false (sym e))
late-other stages.Mail e = refl
late-other stages.Rcpt e = refl
late-other stages.DataCmd e = refl
late-other stages.Header e = refl
late-other stages.Eoh e = refl
late-other stages.Body e = refl
late-other stages.Eob e = refl

module _ (q : Command → Bool) (other_command : (command : Command) (stage : Stage) → stage_of command ≡ Some stage → is_of_client stage ≡ false → q command ≡ false)
    (other_macros : (stage : Stage) (pairs : List Pair) → is_of_client stage ≡ false → list_any q (macro_step (macro_command_of stage) pairs) ≡ false)
    (negotiated : Negotiated) (macros : Macros) where
  none-if : (sent : Bool) (command : Command) (stage : Stage) → stage_of command ≡ Some stage → is_of_client stage ≡ false
      → list_any q (if sent then macro_step (macro_command_of stage) (macros_at macros stage) ++ command ∷ [] else []) ≡ false
  none-if false command stage at_stage other = refl
  none-if true command stage at_stage other =
      list_any-append q (macro_step (macro_command_of stage) (macros_at macros stage)) (command ∷ [])
      ∙ ap (λ (k : Bool). k || (q command || false)) (other_macros stage (macros_at macros stage) other)
      ∙ ap (λ (k : Bool). k || false) (other_command command stage at_stage other)

  none-for : (command : Command) (stage : Stage) (left : List Command) → stage_of command ≡ Some stage → is_of_client stage ≡ false
      → list_any q (steps negotiated macros left) ≡ false → list_any q (steps negotiated macros (command ∷ left)) ≡ false
  none-for command stage left at_stage other none =
      list_any-append q (steps_for negotiated macros command) (steps negotiated macros left)
      ∙ ap (λ (k : Bool). k || list_any q (steps negotiated macros left))
      (ap (λ (s : Option Stage). list_any q (steps_at negotiated macros command s)) at_stage ∙ none-if (is_sent negotiated stage) command stage at_stage other)
      ∙ none

  none-left : (left : List Command) (rank : ℕ) → 3 ≤ rank → Ordered InMessage rank left → list_any q (steps negotiated macros left) ≡ false
  none-left [] rank less o = refl
  none-left (command ∷ left) rank less o =
      let comes_late = late o.0 rank less o.2 in
      let further = rank-follows o.0 rank o.2 in
      none-for command o.0 left o.1 (late-other o.0 comes_late)
      (none-left left (rank_of o.0) (omega (arith, less, further)) (subst (λ (p : Phase). Ordered p (rank_of o.0) left) (in-message InMessage rank o.0 refl comes_late o.2) o.3))

  none-of-message : (message : MailObject) → list_any q (message_steps negotiated macros message) ≡ false
  none-of-message message =
      let left : List Command = parts-after (has_leading_space negotiated) message in
      ap (list_any q) (message-plan negotiated macros message)
      ∙ none-for (commands.Mail message.sender) stages.Mail left refl refl (none-left left 3 (omega arith) (parts-order (has_leading_space negotiated) message))

-- ---- both kinds

other-command : (command : Command) (stage : Stage) → stage_of command ≡ Some stage → is_of_client stage ≡ false → is_of_connection command ≡ false
other-command (commands.Connect client) stage at_stage other = absurd (true≢false (ap is_of_client (same_Some stages.Connect stage at_stage) ∙ other))
other-command (commands.Helo name) stage at_stage other = absurd (true≢false (ap is_of_client (same_Some stages.Helo stage at_stage) ∙ other))
other-command (commands.Macro code pairs) stage at_stage other = absurd cc
other-command command stage at_stage other = refl

other-macros : (stage : Stage) (pairs : List Pair) → is_of_client stage ≡ false → list_any is_of_connection (macro_step (macro_command_of stage) pairs) ≡ false
other-macros stages.Connect pairs other = absurd (true≢false other)
other-macros stages.Helo pairs other = absurd (true≢false other)
other-macros stages.Header pairs other = refl
other-macros stages.Body pairs other = refl
other-macros stage [] other = refl
other-macros stage (pair ∷ pairs) other = refl

client-command : (command : Command) (stage : Stage) → stage_of command ≡ Some stage → is_of_client stage ≡ false → is_client_stage (stage_of command) ≡ false
client-command command stage at_stage other = ap is_client_stage at_stage ∙ other

client-macros : (stage : Stage) (pairs : List Pair) → is_of_client stage ≡ false → list_any (λ (command : Command). is_client_stage (stage_of command)) (macro_step (macro_command_of stage) pairs) ≡ false
client-macros stages.Header pairs other = refl
client-macros stages.Body pairs other = refl
client-macros stage [] other = refl
client-macros stage (pair ∷ pairs) other = refl

-- ---- the exchanges about the client

opening-same : (more before : List Exchange) → list_any (λ (e : Exchange). is_of_connection e.command) more ≡ false → opening_of (onto more before) ≡ opening_of before
opening-same [] before none = refl
opening-same (e ∷ more) before none =
    opening-same more (e ∷ before) (or-right (is_of_connection e.command) (list_any (λ (x : Exchange). is_of_connection x.command) more) none)
    ∙ ap (λ (k : Bool). cond k (e ∷ opening_of before) (opening_of before)) (or-left (is_of_connection e.command) (list_any (λ (x : Exchange). is_of_connection x.command) more) none)

opening-again : (before : List Exchange) → opening_of (opening_of before) ≡ opening_of before
opening-again [] = refl
opening-again (e ∷ before) = by_kind (is_of_connection e.command) refl (opening-again before)
  where
    by_kind : (kind : Bool) → is_of_connection e.command ≡ kind → opening_of (opening_of before) ≡ opening_of before
        → opening_of (cond kind (e ∷ opening_of before) (opening_of before)) ≡ cond kind (e ∷ opening_of before) (opening_of before)
    by_kind true is again =
        ap (λ (k : Bool). cond k (e ∷ opening_of (opening_of before)) (opening_of (opening_of before))) is ∙ ap (λ (l : List Exchange). e ∷ l) again
    by_kind false is again = again

-- ---- a message is given up

given-up-ready : (negotiated : Negotiated) (c : Connection) → IsQuiet negotiated c.channel → is_due_abort c.phase ≡ true → IsReady negotiated (all_sent (after Abort c))
given-up-ready negotiated c quiet due =
    let same : c ≡ record c { channel = idle c.channel.offer negotiated c.channel.edits } = ap (λ (k : Channel). record c { channel = k }) (quiet-is negotiated c.channel quiet) in
    subst (λ (d : Connection). IsReady negotiated (all_sent (after Abort d))) (sym same) (by_phase c.phase due)
  where
    here : Phase → Connection
    here phase = record { channel = idle c.channel.offer negotiated c.channel.edits; phase = phase; last_rank = c.last_rank }

    bytes : List ℕ
    bytes = sent_to.encoding commands.Abort

    none_left : is_idle_by (Some negotiated) expects.Nothing (drop (length ([] ++ bytes)) ([] ++ bytes)) ≡ true
    none_left = ap (is_idle_by (Some negotiated) expects.Nothing) (drop_of_length-le bytes {i = length bytes} (omega arith))

    by_phase : (phase : Phase) → is_due_abort phase ≡ true → IsReady negotiated (all_sent (after Abort (here phase)))
    by_phase InMessage e = record { quiet = record { negotiated_is = refl; idle = none_left; none_unread = refl }; phase_is = refl; rank = omega arith }
    by_phase Skipping e = record { quiet = record { negotiated_is = refl; idle = none_left; none_unread = refl }; phase_is = refl; rank = omega arith }
    by_phase MessageOver e = record { quiet = record { negotiated_is = refl; idle = none_left; none_unread = refl }; phase_is = refl; rank = omega arith }
    by_phase NoMessage e = absurd (true≢false (sym e))
    by_phase ClientOver e = absurd (true≢false (sym e))
    by_phase Closed e = absurd (true≢false (sym e))

-- ready for the next message, or the client ended all
pub then-ready : (negotiated : Negotiated) (exchanges : List Exchange) (old new : Conversation) → IsGivenQuietly negotiated exchanges old new → new.connection.phase ≢ ClientOver
    → IsReady negotiated (given_up new.connection)
then-ready negotiated exchanges old new is not_over = by_phase new.connection.phase refl
  where
    due : is_due_abort new.connection.phase ≡ true → IsReady negotiated (given_up new.connection)
    due e =
        subst (λ (k : Bool). IsReady negotiated (if k then all_sent (after Abort new.connection) else new.connection)) (sym e) (given-up-ready negotiated new.connection is.quiet e)

    by_phase : (phase : Phase) → new.connection.phase ≡ phase → IsReady negotiated (given_up new.connection)
    by_phase NoMessage e =
        subst (λ (k : Bool). IsReady negotiated (if k then all_sent (after Abort new.connection) else new.connection)) (sym (ap is_due_abort e))
        (record { quiet = is.quiet; phase_is = e; rank = is.rank e })
    by_phase InMessage e = due (ap is_due_abort e)
    by_phase Skipping e = due (ap is_due_abort e)
    by_phase MessageOver e = due (ap is_due_abort e)
    by_phase ClientOver e = absurd (not_over e)
    by_phase Closed e = absurd (is.no_loss e)

-- ---- all messages

module _ (reads : ReadsBack) (b : Behavior) (lawful : IsLawful b) (negotiated : Negotiated) (macros : Macros) where
  abbrev about : MailObject → List Exchange → List Exchange
  about message before = dialogue_about b negotiated macros message before

  abbrev chosen : Macros
  chosen = chosen_macros negotiated.lists macros

  -- a message leaves the exchanges about the client
  same-opening : (message : MailObject) (before : List Exchange) → opening_of (onto (about message before) before) ≡ opening_of before
  same-opening message before =
      opening-same (about message before) before
      (none-about b negotiated is_of_connection (message_steps negotiated chosen message) before (none-of-message is_of_connection other-command other-macros negotiated chosen message))

  -- nor does it end with the client
  no-client : (message : MailObject) (before : List Exchange) → list_any about-client (about message before) ≡ false
  no-client message before =
      none-about b negotiated (λ (command : Command). is_client_stage (stage_of command)) (message_steps negotiated chosen message) before
      (none-of-message (λ (command : Command). is_client_stage (stage_of command)) client-command client-macros negotiated chosen message)

  pub message-ready : (message : MailObject) (t : Conversation) → IsReady negotiated t.connection → list_any is_skipping t.transcript ≡ false
      → IsReady negotiated (given_up (with_message b negotiated macros message t).connection)
  message-ready message t ready none_skipped =
      let is = message-given reads b lawful negotiated macros message t ready none_skipped in
      then-ready negotiated (about message t.transcript) t (with_message b negotiated macros message t) is
      (λ over. true≢false (sym (is.by_client over) ∙ no-client message t.transcript))

  pub all-given : (messages : List MailObject) (t : Conversation) (opening : List Exchange) → opening_of t.transcript ≡ opening → list_any is_skipping opening ≡ false
      → IsReady negotiated (given_up t.connection) → AreGiven b negotiated macros opening messages t
  all-given [] t opening same none_skipped ready = tt
  all-given (message ∷ messages) t opening same none_skipped ready =
      let is = message-given reads b lawful negotiated macros message (between t) ready (ap (list_any is_skipping) same ∙ none_skipped) in
      let new : Conversation = with_next b negotiated macros message t in
      let kept : opening_of new.transcript ≡ opening =
      ap opening_of is.given.transcript ∙ same-opening message (opening_of t.transcript) ∙ opening-again t.transcript ∙ same in (
        subst (λ (before : List Exchange). IsGiven (about message before) (between t) new) same is.given,
        all-given messages new opening kept none_skipped
            (then-ready negotiated (about message (opening_of t.transcript)) (between t) new is
            (λ over. true≢false (sym (is.by_client over) ∙ no-client message (opening_of t.transcript)))),
      )

  -- where the client ended all
  ignored-at : (message : MailObject) (t : Conversation) → IsQuiet negotiated t.connection.channel → t.connection.phase ≡ ClientOver
      → with_message b negotiated macros message t
      ≡ at t.connection.channel.offer negotiated ClientOver t.connection.last_rank [] t.transcript t.fed t.faults
  ignored-at message t quiet over =
      let offer : Options = t.connection.channel.offer in
      let left : List Command = parts-after (has_leading_space negotiated) message in
      let same : t ≡ at offer negotiated ClientOver t.connection.last_rank t.connection.channel.edits t.transcript t.fed t.faults =
      quiet-at negotiated t quiet ∙ ap (λ (p : Phase). at offer negotiated p t.connection.last_rank t.connection.channel.edits t.transcript t.fed t.faults) over in
      ap (with_message b negotiated macros message) same
      ∙ client-over-first offer negotiated reads b lawful macros (commands.Mail message.sender) left NoMessage 0 t.connection.last_rank t.connection.channel.edits t.transcript t.fed t.faults
      (message-order 0 (has_leading_space negotiated) message (omega arith))

  pub all-ignored : (messages : List MailObject) (t : Conversation) → IsQuiet negotiated t.connection.channel → t.connection.phase ≡ ClientOver → AreIgnored b negotiated macros messages t
  all-ignored [] t quiet over = tt
  all-ignored (message ∷ messages) t quiet over =
      let stays : given_up t.connection ≡ t.connection = ap (λ (k : Bool). if k then all_sent (after Abort t.connection) else t.connection) (ap is_due_abort over) in
      let quiet_on : IsQuiet negotiated (between t).connection.channel = subst (λ (c : Connection). IsQuiet negotiated c.channel) (sym stays) quiet in
      let over_on : (between t).connection.phase ≡ ClientOver = ap (λ (c : Connection). c.phase) stays ∙ over in
      let is = ignored-at message (between t) quiet_on over_on in
      let new : Conversation = with_next b negotiated macros message t in (
        record {
          transcript = ap (λ (u : Conversation). u.transcript) is;
          verdicts = ap (λ (u : Conversation). u.fed) is ∙ sym (append-nil t.fed);
          edits = ap (λ (u : Conversation). u.connection.channel.edits) is;
          no_faults = ap (λ (u : Conversation). u.faults) is;
        },
        all-ignored messages new (subst (λ (u : Conversation). IsQuiet negotiated u.connection.channel) (sym is) (idle-quiet _ negotiated []))
            (ap (λ (u : Conversation). u.connection.phase) is),
      )

  -- ---- after the first one

  -- the exchanges about the client skip nothing
  client-skips : (stage : Stage) (asked : Bool) (shown : Seen) → is_of_client stage ≡ true → has_verdict is_skip (answer_to b negotiated (Some stage) asked shown) ≡ false
  client-skips stage false shown client = refl
  client-skips stage true shown client = by_skip (is_skip verdict) refl
    where
      verdict : Verdict
      verdict = permitted_verdict negotiated (b.decide stage shown).verdict

      by_skip : (skips : Bool) → is_skip verdict ≡ skips → is_skip verdict ≡ false
      by_skip false e = e
      by_skip true e =
          let body = skip-body negotiated stage verdict (permitted-received negotiated stage (b.decide stage shown) (lawful.answers stage shown)).given e in
          absurd (true≢false (sym client ∙ ap is_of_client body))

  opening-goes-on : (command : Command) (before : List Exchange) → is_of_connection command ≡ true → is_skipping (next b negotiated before command) ≡ false
  opening-goes-on (commands.Connect client) before e = client-skips stages.Connect (is_asked_at negotiated (Some stages.Connect)) (seen (has_leading_space negotiated) (commands.Connect client ∷ commands_of before)) refl
  opening-goes-on (commands.Helo name) before e = client-skips stages.Helo (is_asked_at negotiated (Some stages.Helo)) (seen (has_leading_space negotiated) (commands.Helo name ∷ commands_of before)) refl
  opening-goes-on (commands.Macro code pairs) before e = refl
  opening-goes-on other before e = absurd (true≢false (sym e))

  pub opening-skips : (left : List Command) (before : List Exchange) → list_any is_skipping (opening_of before) ≡ false
      → list_any is_skipping (opening_of (onto (dialogue_with b negotiated before left) before)) ≡ false
  unfolding dialogue_with
  opening-skips [] before none = none
  opening-skips (command ∷ left) before none =
      by_out (is_left_out before command) (opening-skips left before none) (opening-skips left (next b negotiated before command ∷ before) with_this)
    where
      by_kind : (kind : Bool) → is_of_connection command ≡ kind
          → list_any is_skipping (cond kind (next b negotiated before command ∷ opening_of before) (opening_of before)) ≡ false
      by_kind true e = ap (λ (k : Bool). k || list_any is_skipping (opening_of before)) (opening-goes-on command before e) ∙ none
      by_kind false e = none

      with_this : list_any is_skipping (opening_of (next b negotiated before command ∷ before)) ≡ false
      with_this = by_kind (is_of_connection command) refl

      by_closed : (closed : Bool)
          → list_any is_skipping (opening_of (onto (dialogue_with b negotiated (next b negotiated before command ∷ before) left) (next b negotiated before command ∷ before))) ≡ false
          → list_any is_skipping (opening_of (onto (if closed then [] else dialogue_with b negotiated (next b negotiated before command ∷ before) left) (next b negotiated before command ∷ before))) ≡ false
      by_closed true is = with_this
      by_closed false is = is

      by_out : (out : Bool) → list_any is_skipping (opening_of (onto (dialogue_with b negotiated before left) before)) ≡ false
          → list_any is_skipping (opening_of (onto (dialogue_with b negotiated (next b negotiated before command ∷ before) left) (next b negotiated before command ∷ before))) ≡ false
          → list_any is_skipping (opening_of (onto (if out then dialogue_with b negotiated before left
          else next b negotiated before command ∷ (if is_closed (next b negotiated before command ∷ before) left then [] else dialogue_with b negotiated (next b negotiated before command ∷ before) left)) before)) ≡ false
      by_out true skipped goes = skipped
      by_out false skipped goes = by_closed (is_closed (next b negotiated before command ∷ before) left) goes
