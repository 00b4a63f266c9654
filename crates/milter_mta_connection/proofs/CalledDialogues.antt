-- The calls for commands, one after the other, are the dialogue with the filter.
use Rattle.std.specs.Prelude.{if◌then◌else◌}
use Rattle.std.proofs.Common.{◌≡◌, ◌≢◌, ◌≤◌, ℕ, Bool, true, false, not, ◌&&◌, ◌||◌, List, [], ◌∷◌, ◌++◌, Option, None, Some, refl, sym, ap, ◌∙◌, subst, arith, append-nil}
use Rattle.std.specs.List.{list_any}
use Rattle.std.proofs.lemmas.Bool.{true≢false}
use Rattle.milter_wire.specs.declared.options.Options.{Options}
use Rattle.milter_wire.specs.declared.command.Command.{Command}
use Rattle.milter_wire.specs.declared.command.Command.TheVariants as commands
use Rattle.milter_wire.specs.declared.negotiation.Negotiated.{Negotiated}
use Rattle.milter_wire.specs.declared.stage.Stage.{Stage}
use Rattle.milter_wire.specs.declared.stage.Stage.TheVariants as stages
use Rattle.milter_wire.specs.Negotiation.{is_answered, is_sent}
use Rattle.milter_wire.specs.Stages.{macro_command_of, macro_stage_of, stage_of}
use Rattle.milter_fields.specs.declared.pair.Pair.{Pair}
use Rattle.milter_message.specs.declared.edit.Edit.{Edit}
use Rattle.milter_mail.specs.ChosenMacros.{chosen_macros}
use Rattle.milter_mail.specs.Macros.{Macros}
use Rattle.milter_mail.specs.Steps.{macro_step, macros_at}
use Rattle.milter_protocol.specs.declared.answer.Answer.{Answer}
use Rattle.milter_protocol.specs.Behavior.{Behavior, answer_to, exchange_of}
use Rattle.milter_protocol.specs.Dialogue.{are_all_refused, dialogue_with, is_closed, is_final, is_final_answer, is_left_out, is_skipping}
use Rattle.milter_protocol.specs.Exchanges.{Exchange, commands_of, onto}
use Rattle.milter_protocol.specs.Lawful.{IsLawful}
use Rattle.milter_protocol.specs.Permitted.{permitted}
use Rattle.milter_protocol.specs.Seen.{Seen}
use Rattle.milter_protocol.specs.StageOrder.{rank_of}
use Rattle.milter_protocol.specs.Verdicts.{has_verdict, is_final_at, is_skip}
use Rattle.milter_mta_outcome.specs.ReceivedReplies.{is_end}
use Rattle.milter_mta_connection.specs.declared.filter_event.Fed.{Fed}
use Rattle.milter_mta_connection.specs.declared.call_outcome.CallFault.{CallFault}
use Rattle.milter_mta_connection.specs.declared.phase.Phase.{Phase}
use Rattle.milter_mta_connection.specs.declared.phase.Phase.TheVariants.{NoMessage, InMessage, Skipping, MessageOver, ClientOver, Closed}
use Rattle.milter_mta_connection.specs.Connection.{abort_before, asked_pairs, is_in_order, is_left_out as leaves_out, is_over, phase_after, phase_after_verdict, phase_over, rank_after, rank_after_verdict}
use Rattle.milter_mta_connection.specs.SessionCalls.{answered, fed_by_answer}
use Rattle.milter_mta_connection.specs.Conversations.{Conversation, are_refused_with, exchanges_about, pairs_at, with_call, with_calls}
use Rattle.milter_mta_outcome.proofs.ReceivedAnswers.{IsReceived}
use Rattle.milter_mta_connection.proofs.Answers.{ReadsBack, idle}
use Rattle.milter_mta_connection.proofs.CallStages.{GoesTo, Ordered, RankIn, base, base-order, going-open, goes-to, in-message, is_going, is_late, late, none-after-end, rank-follows, skips, taken}
use Rattle.milter_mta_connection.proofs.OneCall as one_call
use Rattle.milter_mta_connection.proofs.OneCall.{at}
use Rattle.milter_mta_connection.proofs.CalledStages.{body-by-stage, is_body_stage, is_rcpt_stage, late-ignored, mail-in, no-macros, not-end, over-is, over-rank, rank-in, rcpt-by-stage, same-macros, same-rank, same-refused, skip-body, steps, steps_at}
use Rattle.milter_mta_connection.proofs.GivenExchanges.{HasExchanged, ends-going, ends-over, goes-none, goes-some, exchanged-none, exchanged-some}

-- ---- one command after the other

module _ (offer : Options) (negotiated : Negotiated) (reads : ReadsBack) (b : Behavior) (lawful : IsLawful b) (macros : Macros) where
  abbrev chosen : Macros
  chosen = chosen_macros negotiated.lists macros

  abbrev left_of : List Command → List Command
  left_of left = steps negotiated chosen left

  abbrev here : Phase → ℕ → List Edit → List Exchange → List Fed → List CallFault → Conversation
  here = at offer negotiated

  abbrev next : List Exchange → Command → Exchange
  next before command = exchange_of b negotiated (commands_of before) command

  -- where the dialogue goes on with the commands that are left
  pub record Start (phase : Phase) (last : ℕ) (es : List Edit) (before : List Exchange) (left : List Command) : Type 0 where
    pub going : is_going phase ≡ true
    pub ordered : Ordered (base phase) last left
    pub skipping : list_any is_skipping before ≡ skips phase
    pub rank : RankIn phase last
    pub no_edits : left ≡ [] → es ≡ []

  abbrev pub Tells : List Command → Type 0
  Tells left = (phase : Phase) (last : ℕ) (es : List Edit) (before : List Exchange) (fed : List Fed) (faults : List CallFault) → Start phase last es before left
      → HasExchanged offer negotiated (dialogue_with b negotiated before (left_of left)) before fed faults (with_calls b negotiated macros left (here phase last es before fed faults))

  -- ---- once it is over

  -- a command of which nothing is sent
  ignored-call : (command : Command) (stage : Stage) (left : List Command) (phase : Phase) (last : ℕ) (es : List Edit) (before : List Exchange) (fed : List Fed) (faults : List CallFault)
      → stage_of command ≡ Some stage → phase ≢ Closed → is_in_order phase last stage ≡ true → abort_before phase stage ≡ [] → leaves_out (Some negotiated) phase stage ≡ true
      → with_calls b negotiated macros (command ∷ left) (here phase last es before fed faults)
      ≡ with_calls b negotiated macros left (here (phase_after phase stage) (rank_after phase last stage) [] before fed faults)
  unfolding with_calls
  ignored-call command stage left phase last es before fed faults at_stage not_closed in_order no_abort left_out =
      let pairs : List Pair = pairs_at macros (stage_of command) in
      let t : Conversation = here phase last es before fed faults in
      let takes = taken offer negotiated es phase last stage not_closed in_order in
      ap (λ (packets : List Command). if are_refused_with packets (with_call b negotiated command pairs t).transcript left then with_call b negotiated command pairs t
      else with_calls b negotiated macros left (with_call b negotiated command pairs t))
      (one_call.no-packets offer negotiated reads b lawful command stage pairs phase last es before fed faults at_stage takes no_abort left_out)
      ∙ ap (with_calls b negotiated macros left)
      (one_call.left-out-call offer negotiated reads b lawful command stage pairs phase last es before fed faults at_stage takes no_abort left_out)

  not_over : MessageOver ≢ Closed
  not_over e = absurd cc

  not_gone : ClientOver ≢ Closed
  not_gone e = absurd cc

  client-over : (left : List Command) (phase : Phase) (rank last : ℕ) (before : List Exchange) (fed : List Fed) (faults : List CallFault) → Ordered phase rank left
      → with_calls b negotiated macros left (here ClientOver last [] before fed faults) ≡ here ClientOver last [] before fed faults
  unfolding with_calls
  client-over [] phase rank last before fed faults o = refl
  client-over (command ∷ left) phase rank last before fed faults o =
      ignored-call command o.0 left ClientOver last [] before fed faults o.1 not_gone refl refl refl
      ∙ client-over left (phase_after phase o.0) (rank_of o.0) last before fed faults o.3

  -- the edits of the last message are dropped by the first call
  pub client-over-first : (command : Command) (left : List Command) (phase : Phase) (rank last : ℕ) (es : List Edit) (before : List Exchange) (fed : List Fed) (faults : List CallFault)
      → Ordered phase rank (command ∷ left)
      → with_calls b negotiated macros (command ∷ left) (here ClientOver last es before fed faults) ≡ here ClientOver last [] before fed faults
  client-over-first command left phase rank last es before fed faults o =
      ignored-call command o.0 left ClientOver last es before fed faults o.1 not_gone refl refl refl
      ∙ client-over left (phase_after phase o.0) (rank_of o.0) last before fed faults o.3

  message-over : (left : List Command) (rank last : ℕ) (before : List Exchange) (fed : List Fed) (faults : List CallFault) → 3 ≤ rank → Ordered InMessage rank left
      → with_calls b negotiated macros left (here MessageOver last [] before fed faults) ≡ here MessageOver last [] before fed faults
  unfolding with_calls
  message-over [] rank last before fed faults less o = refl
  message-over (command ∷ left) rank last before fed faults less o =
      let comes_late = late o.0 rank less o.2 in
      let is = late-ignored negotiated last o.0 comes_late in
      let further = rank-follows o.0 rank o.2 in
      ignored-call command o.0 left MessageOver last [] before fed faults o.1 not_over is.in_order is.no_abort is.left_out
      ∙ ap (λ (p : Phase). with_calls b negotiated macros left (here p (rank_after MessageOver last o.0) [] before fed faults)) is.phase_is
      ∙ ap (λ (n : ℕ). with_calls b negotiated macros left (here MessageOver n [] before fed faults)) is.rank_is
      ∙ message-over left (rank_of o.0) last before fed faults (omega (arith, less, further))
      (subst (λ (p : Phase). Ordered p (rank_of o.0) left) (in-message InMessage rank o.0 refl comes_late o.2) o.3)

  no-calls : (t : Conversation) → with_calls b negotiated macros [] t ≡ t
  unfolding with_calls
  no-calls t = refl

  -- a final verdict: nothing more is sent, and nothing more comes
  final-goes : (stage : Stage) (left : List Command) (phase : Phase) (last rank : ℕ) (es : List Edit) (before : List Exchange) (fed : List Fed) (faults : List CallFault)
      → is_going phase ≡ true → is_in_order phase last stage ≡ true → Ordered (phase_after (base phase) stage) (rank_of stage) left → (is_end stage ≡ false → es ≡ [])
      → with_calls b negotiated macros left (here (phase_over stage) rank es before fed faults) ≡ here (phase_over stage) rank es before fed faults
  final-goes stages.Connect left phase last rank es before fed faults going in_order o no_edits =
      subst (λ (l : List Edit). with_calls b negotiated macros left (here ClientOver rank l before fed faults) ≡ here ClientOver rank l before fed faults) (sym (no_edits refl))
      (client-over left (phase_after (base phase) stages.Connect) 1 rank before fed faults o)
  final-goes stages.Helo left phase last rank es before fed faults going in_order o no_edits =
      subst (λ (l : List Edit). with_calls b negotiated macros left (here ClientOver rank l before fed faults) ≡ here ClientOver rank l before fed faults) (sym (no_edits refl))
      (client-over left (phase_after (base phase) stages.Helo) 2 rank before fed faults o)
  final-goes stages.Eob left phase last rank es before fed faults going in_order o no_edits =
      let none : left ≡ [] = none-after-end left (subst (λ (p : Phase). Ordered p 9 left) (in-message phase last stages.Eob going refl in_order) o) in
      ap (λ (l : List Command). with_calls b negotiated macros l (here NoMessage rank es before fed faults)) none ∙ no-calls (here NoMessage rank es before fed faults)
  final-goes stages.Mail left phase last rank es before fed faults going in_order o no_edits =
      subst (λ (l : List Edit). with_calls b negotiated macros left (here MessageOver rank l before fed faults) ≡ here MessageOver rank l before fed faults) (sym (no_edits refl))
      (message-over left 3 rank before fed faults (omega arith) (subst (λ (p : Phase). Ordered p 3 left) (mail-in phase going) o))
  final-goes stage left phase last rank es before fed faults going in_order o no_edits =
      subst (λ (l : List Edit). with_calls b negotiated macros left (here MessageOver rank l before fed faults) ≡ here MessageOver rank l before fed faults) (sym (no_edits refl))
      (message-over left (rank_of stage) rank before fed faults (omega arith) (subst (λ (p : Phase). Ordered p (rank_of stage) left) (in-message phase last stage going refl in_order) o))

  -- ---- an exchange

  -- where not all recipients are refused, the next commands are called for
  abbrev goes : List Command → Conversation → Conversation
  goes left t = if are_all_refused t.transcript left then t else with_calls b negotiated macros left t

  module _ (command : Command) (stage : Stage) (left : List Command) (phase : Phase) (last : ℕ) (so_far : List Exchange) (fed : List Fed) (faults : List CallFault)
      (at_stage : stage_of command ≡ Some stage) (going : is_going phase ≡ true) (in_order : is_in_order phase last stage ≡ true) (to : GoesTo phase last stage)
      (ordered : Ordered (phase_after (base phase) stage) (rank_of stage) left) (skipping : list_any is_skipping so_far ≡ skips phase)
      (sent : is_sent negotiated stage ≡ true) (further : Tells left) where
    abbrev e : Exchange
    e = next so_far command

    abbrev more : List Exchange
    more = dialogue_with b negotiated (e ∷ so_far) (left_of left)

    final-is : (answer : Option Answer) → e.answer ≡ answer → is_final e ≡ has_verdict (is_final_at stage) answer
    final-is answer is = ap (λ (s : Option Stage). is_final_answer s e.answer) at_stage ∙ ap (has_verdict (is_final_at stage)) is

    closed-is : (final : Bool) → is_final e ≡ final → is_closed (e ∷ so_far) (left_of left) ≡ (final || are_all_refused (e ∷ so_far) left)
    closed-is final is =
        ap (λ (r : Bool). is_final e || r) (same-refused negotiated chosen e so_far left stage (rcpt-by-stage command ∙ ap is_rcpt_stage at_stage) sent)
        ∙ ap (λ (f : Bool). f || are_all_refused (e ∷ so_far) left) is

    -- where it goes on
    start-next : is_skipping e ≡ false → Start (phase_after phase stage) (rank_of stage) [] (e ∷ so_far) left
    start-next no_skip =
        record {
          going = to.going;
          ordered = subst (λ (p : Phase). Ordered p (rank_of stage) left) (sym to.base_is) ordered;
          skipping = ap (λ (s : Bool). s || list_any is_skipping so_far) no_skip ∙ skipping ∙ sym to.skips_is;
          rank = to.rank;
          no_edits = λ none. refl;
        }

    start-skipping : is_skipping e ≡ true → stage ≡ stages.Body → Start Skipping (rank_of stage) [] (e ∷ so_far) left
    start-skipping skip body =
        record {
          going = refl;
          ordered = subst (λ (p : Phase). Ordered p (rank_of stage) left) (in-message phase last stage going (ap is_late body) in_order) ordered;
          skipping = ap (λ (s : Bool). s || list_any is_skipping so_far) skip;
          rank = subst (λ (s : Stage). 3 ≤ rank_of s) (sym body) (omega arith);
          no_edits = λ none. refl;
        }

    -- it isn't answered
    exchanged-unanswered : e.answer ≡ None
        → HasExchanged offer negotiated (e ∷ (if is_closed (e ∷ so_far) (left_of left) then [] else more)) so_far fed faults (goes left (here (phase_after phase stage) (rank_of stage) [] (e ∷ so_far) fed faults))
    exchanged-unanswered none =
        subst (λ (c : Bool). HasExchanged offer negotiated (e ∷ (if c then [] else more)) so_far fed faults (goes left t)) (sym (closed-is false (final-is None none)))
        (by_refused (are_all_refused (e ∷ so_far) left))
      where
        t : Conversation
        t = here (phase_after phase stage) (rank_of stage) [] (e ∷ so_far) fed faults

        by_refused : (refused : Bool) → HasExchanged offer negotiated (e ∷ (if refused then [] else more)) so_far fed faults (if refused then t else with_calls b negotiated macros left t)
        by_refused true = exchanged-none offer negotiated e so_far fed faults none (phase_after phase stage) (rank_of stage) (ends-going e (phase_after phase stage) (rank_of stage) to.going to.rank)
        by_refused false =
            goes-none offer negotiated e so_far fed faults none more (with_calls b negotiated macros left t)
            (further (phase_after phase stage) (rank_of stage) [] (e ∷ so_far) fed faults (start-next (ap (has_verdict is_skip) none)))

    -- it is answered
    module _ (answer : Answer) (some : e.answer ≡ Some answer) (is : IsReceived negotiated stage answer) where
      abbrev fed_then : List Fed
      fed_then = fed ++ fed_by_answer answer ∷ []

      abbrev then_in : Phase → ℕ → List Edit → Conversation
      then_in p rank es = here p rank es (e ∷ so_far) fed_then faults

      -- for good
      exchanged-final : is_final_at stage answer.verdict ≡ true
          → HasExchanged offer negotiated (e ∷ (if is_closed (e ∷ so_far) (left_of left) then [] else more)) so_far fed faults
          (goes left (then_in (phase_after_verdict stage answer.verdict (phase_after phase stage)) (rank_after_verdict stage answer.verdict (rank_of stage)) answer.edits))
      exchanged-final final =
          subst (λ (c : Bool). HasExchanged offer negotiated (e ∷ (if c then [] else more)) so_far fed faults (goes left (then_in (phase_after_verdict stage answer.verdict (phase_after phase stage)) rank answer.edits)))
          (sym (closed-is true (final-is (Some answer) some ∙ final)))
          (subst (HasExchanged offer negotiated (e ∷ []) so_far fed faults) (sym (by_refused (are_all_refused (e ∷ so_far) left)))
          (exchanged-some offer negotiated e so_far fed faults answer some (phase_over stage) rank (ends-over e stage rank at_stage (over-rank stage answer.verdict final))))
        where
          rank : ℕ
          rank = rank_after_verdict stage answer.verdict (rank_of stage)

          t : Conversation
          t = then_in (phase_after_verdict stage answer.verdict (phase_after phase stage)) rank answer.edits

          over-is : t ≡ then_in (phase_over stage) rank answer.edits
          over-is = ap (λ (f : Bool). then_in (if f then phase_over stage else if is_skip answer.verdict then Skipping else phase_after phase stage) rank answer.edits) final

          by_refused : (refused : Bool) → (if refused then t else with_calls b negotiated macros left t) ≡ then_in (phase_over stage) rank answer.edits
          by_refused true = over-is
          by_refused false =
              ap (with_calls b negotiated macros left) over-is
              ∙ final-goes stage left phase last rank answer.edits (e ∷ so_far) fed_then faults going in_order ordered is.at_end

      -- and the dialogue goes on
      exchanged-open : is_final_at stage answer.verdict ≡ false
          → HasExchanged offer negotiated (e ∷ (if is_closed (e ∷ so_far) (left_of left) then [] else more)) so_far fed faults
          (goes left (then_in (phase_after_verdict stage answer.verdict (phase_after phase stage)) (rank_after_verdict stage answer.verdict (rank_of stage)) answer.edits))
      exchanged-open final =
          subst (λ (c : Bool). HasExchanged offer negotiated (e ∷ (if c then [] else more)) so_far fed faults (goes left (then_in (phase_after_verdict stage answer.verdict (phase_after phase stage)) (rank_after_verdict stage answer.verdict (rank_of stage)) answer.edits)))
          (sym (closed-is false (final-is (Some answer) some ∙ final)))
          (subst (λ (t : Conversation). HasExchanged offer negotiated (e ∷ (if are_all_refused (e ∷ so_far) left then [] else more)) so_far fed faults (if are_all_refused (e ∷ so_far) left then t else with_calls b negotiated macros left t))
          (sym on-is)
          (by_skip (is_skip answer.verdict) refl (are_all_refused (e ∷ so_far) left)))
        where
          no_edits : answer.edits ≡ []
          no_edits = is.at_end (not-end stage answer.verdict final)

          t : Bool → Conversation
          t skip = then_in (if skip then Skipping else phase_after phase stage) (rank_of stage) answer.edits

          on-is : then_in (phase_after_verdict stage answer.verdict (phase_after phase stage)) (rank_after_verdict stage answer.verdict (rank_of stage)) answer.edits ≡ t (is_skip answer.verdict)
          on-is =
              ap (λ (f : Bool). then_in (if f then phase_over stage else if is_skip answer.verdict then Skipping else phase_after phase stage) (rank_after_verdict stage answer.verdict (rank_of stage)) answer.edits) final
              ∙ ap (λ (n : ℕ). then_in (if is_skip answer.verdict then Skipping else phase_after phase stage) n answer.edits) (same-rank stage answer.verdict (rank_of stage) final)

          by_skip : (skip : Bool) → is_skip answer.verdict ≡ skip → (refused : Bool)
              → HasExchanged offer negotiated (e ∷ (if refused then [] else more)) so_far fed faults (if refused then t skip else with_calls b negotiated macros left (t skip))
          by_skip true skips true = exchanged-some offer negotiated e so_far fed faults answer some Skipping (rank_of stage)
              (record { rank = λ is. absurd cc; no_loss = λ is. absurd cc; by_client = λ is. absurd cc })
          by_skip false skips true =
              exchanged-some offer negotiated e so_far fed faults answer some (phase_after phase stage) (rank_of stage) (ends-going e (phase_after phase stage) (rank_of stage) to.going to.rank)
          by_skip true skips false =
              goes-some offer negotiated e so_far fed faults answer some no_edits more (with_calls b negotiated macros left (t true))
              (subst (λ (es : List Edit). HasExchanged offer negotiated more (e ∷ so_far) fed_then faults (with_calls b negotiated macros left (then_in Skipping (rank_of stage) es))) (sym no_edits)
              (further Skipping (rank_of stage) [] (e ∷ so_far) fed_then faults
              (start-skipping (ap (has_verdict is_skip) some ∙ skips) (skip-body negotiated stage answer.verdict is.given skips))))
          by_skip false skips false =
              goes-some offer negotiated e so_far fed faults answer some no_edits more (with_calls b negotiated macros left (t false))
              (subst (λ (es : List Edit). HasExchanged offer negotiated more (e ∷ so_far) fed_then faults (with_calls b negotiated macros left (then_in (phase_after phase stage) (rank_of stage) es))) (sym no_edits)
              (further (phase_after phase stage) (rank_of stage) [] (e ∷ so_far) fed_then faults (start-next (ap (has_verdict is_skip) some ∙ skips))))

      pub exchanged-some-answer : (final : Bool) → is_final_at stage answer.verdict ≡ final
          → HasExchanged offer negotiated (e ∷ (if is_closed (e ∷ so_far) (left_of left) then [] else more)) so_far fed faults
          (goes left (then_in (phase_after_verdict stage answer.verdict (phase_after phase stage)) (rank_after_verdict stage answer.verdict (rank_of stage)) answer.edits))
      exchanged-some-answer true final = exchanged-final final
      exchanged-some-answer false final = exchanged-open final

    -- the command was sent, and its answer came
    pub exchanged-one : HasExchanged offer negotiated (e ∷ (if is_closed (e ∷ so_far) (left_of left) then [] else more)) so_far fed faults
        (goes left (answered stage e.answer (here (phase_after phase stage) (rank_of stage) [] (e ∷ so_far) fed faults)))
    exchanged-one = by_asked (is_answered negotiated stage) (one_call.answer-at offer negotiated reads b lawful command stage so_far at_stage)
      where
        seen : Seen
        seen = one_call.shown offer negotiated reads b lawful so_far command

        goes_to : Option Answer → Type 0
        goes_to answer =
            HasExchanged offer negotiated (e ∷ (if is_closed (e ∷ so_far) (left_of left) then [] else more)) so_far fed faults
            (goes left (answered stage answer (here (phase_after phase stage) (rank_of stage) [] (e ∷ so_far) fed faults)))

        by_asked : (asked : Bool) → e.answer ≡ answer_to b negotiated (Some stage) asked seen → goes_to e.answer
        by_asked false is = subst goes_to (sym is) (exchanged-unanswered is)
        by_asked true is =
            let answer : Answer = permitted negotiated (b.decide stage seen) in
            subst goes_to (sym is)
            (exchanged-some-answer answer is (one_call.decided offer negotiated reads b lawful stage seen) (is_final_at stage answer.verdict) refl)

  -- ---- what is sent before a command

  abbrev with_macros : List Exchange → Stage → List Pair → List Exchange
  with_macros before stage pairs = onto (exchanges_about b negotiated before (macro_step (macro_command_of stage) pairs)) before

  same-skipping : (code : Option ℕ) (pairs : List Pair) (before : List Exchange)
      → list_any is_skipping (onto (exchanges_about b negotiated before (macro_step code pairs)) before) ≡ list_any is_skipping before
  same-skipping None pairs before = refl
  same-skipping (Some code) [] before = refl
  same-skipping (Some code) (pair ∷ pairs) before = refl

  refused-with : (code : Option ℕ) (pairs : List Pair) (command : Command) (transcript : List Exchange) (left : List Command)
      → are_refused_with (macro_step code pairs ++ command ∷ []) transcript left ≡ are_all_refused transcript left
  refused-with None pairs command transcript left = refl
  refused-with (Some code) [] command transcript left = refl
  refused-with (Some code) (pair ∷ pairs) command transcript left = refl

  lift-macros : (code : Option ℕ) (pairs : List Pair) (before : List Exchange) (command : Command) (rest : List Command) (fed : List Fed) (faults : List CallFault) (t : Conversation)
      → (let so_far = onto (exchanges_about b negotiated before (macro_step code pairs)) before in
      HasExchanged offer negotiated (dialogue_with b negotiated so_far (command ∷ rest)) so_far fed faults t)
      → HasExchanged offer negotiated (dialogue_with b negotiated before ((macro_step code pairs ++ command ∷ []) ++ rest)) before fed faults t
  unfolding dialogue_with
  lift-macros None pairs before command rest fed faults t is = is
  lift-macros (Some code) [] before command rest fed faults t is = is
  lift-macros (Some code) (pair ∷ pairs) before command rest fed faults t is =
      let macros : Command = commands.Macro code (pair ∷ pairs) in
      goes-none offer negotiated (next before macros) before fed faults refl (dialogue_with b negotiated (next before macros ∷ before) (command ∷ rest)) t is

  -- ---- the dialogue's next command

  dialogue-out : (before : List Exchange) (command : Command) (left : List Command) → is_left_out before command ≡ true
      → dialogue_with b negotiated before (command ∷ left) ≡ dialogue_with b negotiated before left
  unfolding dialogue_with
  dialogue-out before command left out =
      ap (λ (o : Bool). if o then dialogue_with b negotiated before left
      else next before command ∷ (if is_closed (next before command ∷ before) left then [] else dialogue_with b negotiated (next before command ∷ before) left)) out

  dialogue-next : (before : List Exchange) (command : Command) (left : List Command) → is_left_out before command ≡ false
      → dialogue_with b negotiated before (command ∷ left)
      ≡ next before command ∷ (if is_closed (next before command ∷ before) left then [] else dialogue_with b negotiated (next before command ∷ before) left)
  unfolding dialogue_with
  dialogue-next before command left out =
      ap (λ (o : Bool). if o then dialogue_with b negotiated before left
      else next before command ∷ (if is_closed (next before command ∷ before) left then [] else dialogue_with b negotiated (next before command ∷ before) left)) out

  -- ---- one call

  module _ (command : Command) (left : List Command) (further : Tells left) (phase : Phase) (last : ℕ) (es : List Edit) (before : List Exchange) (fed : List Fed) (faults : List CallFault)
      (start : Start phase last es before (command ∷ left)) where
    abbrev stage : Stage
    stage = start.ordered.0

    at_stage : stage_of command ≡ Some stage
    at_stage = start.ordered.1

    in_order : is_in_order phase last stage ≡ true
    in_order = sym (base-order phase last stage) ∙ start.ordered.2

    to : GoesTo phase last stage
    to = goes-to phase last stage start.going start.rank in_order

    abbrev t : Conversation
    t = here phase last es before fed faults

    abbrev pairs : List Pair
    pairs = pairs_at macros (stage_of command)

    abbrev macros_then : List Pair
    macros_then = macros_at chosen stage

    out-is : (so_far : List Exchange) → list_any is_skipping so_far ≡ skips phase → is_left_out so_far command ≡ is_over phase stage
    out-is so_far skipping =
        ap (λ (k : Bool). k && list_any is_skipping so_far) (body-by-stage command ∙ ap is_body_stage at_stage)
        ∙ ap (λ (k : Bool). is_body_stage (Some stage) && k) skipping
        ∙ over-is phase stage start.going

    -- what the plan has of it
    plan-is : (sent : Bool) → is_sent negotiated stage ≡ sent
        → left_of (command ∷ left) ≡ (if sent then macro_step (macro_command_of stage) macros_then ++ command ∷ [] else []) ++ left_of left
    plan-is sent is =
        ap (λ (s : Option Stage). steps_at negotiated chosen command s ++ left_of left) at_stage
        ∙ ap (λ (k : Bool). (if k then macro_step (macro_command_of stage) macros_then ++ command ∷ [] else []) ++ left_of left) is

    -- nothing is sent of it
    exchanged-unsent : leaves_out (Some negotiated) phase stage ≡ true → dialogue_with b negotiated before (left_of (command ∷ left)) ≡ dialogue_with b negotiated before (left_of left)
        → HasExchanged offer negotiated (dialogue_with b negotiated before (left_of (command ∷ left))) before fed faults (with_calls b negotiated macros (command ∷ left) t)
    exchanged-unsent left_out same =
        subst (λ (more : List Exchange). HasExchanged offer negotiated more before fed faults (with_calls b negotiated macros (command ∷ left) t)) (sym same)
        (subst (HasExchanged offer negotiated (dialogue_with b negotiated before (left_of left)) before fed faults) (sym calls-are)
        (further (phase_after phase stage) (rank_of stage) [] before fed faults (record {
          going = to.going;
          ordered = subst (λ (p : Phase). Ordered p (rank_of stage) left) (sym to.base_is) start.ordered.3;
          skipping = start.skipping ∙ sym to.skips_is;
          rank = to.rank;
          no_edits = λ none. refl;
        })))
      where
        calls-are : with_calls b negotiated macros (command ∷ left) t ≡ with_calls b negotiated macros left (here (phase_after phase stage) (rank_of stage) [] before fed faults)
        calls-are =
            ignored-call command stage left phase last es before fed faults at_stage (going-open phase start.going) in_order to.no_abort left_out
            ∙ ap (λ (n : ℕ). with_calls b negotiated macros left (here (phase_after phase stage) n [] before fed faults)) to.rank_is

    abbrev so_far : List Exchange
    so_far = with_macros before stage macros_then

    asked-is : asked_pairs (Some negotiated) (macro_stage_of stage) pairs ≡ macros_then
    asked-is = ap (λ (s : Option Stage). asked_pairs (Some negotiated) (macro_stage_of stage) (pairs_at macros s)) at_stage ∙ same-macros negotiated macros stage

    sent-goes : leaves_out (Some negotiated) phase stage ≡ false
        → with_calls b negotiated macros (command ∷ left) t
        ≡ goes left (answered stage (next so_far command).answer (here (phase_after phase stage) (rank_of stage) [] (next so_far command ∷ so_far) fed faults))
    unfolding with_calls
    sent-goes left_out =
        let takes = taken offer negotiated es phase last stage (going-open phase start.going) in_order in
        let asked : List Pair = asked_pairs (Some negotiated) (macro_stage_of stage) pairs in
        let after : Conversation = with_call b negotiated command pairs t in
        ap (λ (packets : List Command). if are_refused_with packets after.transcript left then after else with_calls b negotiated macros left after)
        (one_call.packets-sent offer negotiated reads b lawful command stage pairs phase last es before fed faults at_stage takes to.no_abort left_out)
        ∙ ap (λ (r : Bool). if r then after else with_calls b negotiated macros left after) (refused-with (macro_command_of stage) asked command after.transcript left)
        ∙ ap (goes left) (one_call.sent-call offer negotiated reads b lawful command stage pairs phase last es before fed faults at_stage takes to.no_abort left_out)
        ∙ ap (λ (ps : List Pair). goes left (answered stage (next (with_macros before stage ps) command).answer
        (here (phase_after phase stage) (rank_after phase last stage) [] (next (with_macros before stage ps) command ∷ with_macros before stage ps) fed faults))) asked-is
        ∙ ap (λ (n : ℕ). goes left (answered stage (next so_far command).answer (here (phase_after phase stage) n [] (next so_far command ∷ so_far) fed faults))) to.rank_is

    exchanged-sent : is_over phase stage ≡ false → is_sent negotiated stage ≡ true → leaves_out (Some negotiated) phase stage ≡ false
        → HasExchanged offer negotiated (dialogue_with b negotiated before (left_of (command ∷ left))) before fed faults (with_calls b negotiated macros (command ∷ left) t)
    exchanged-sent over sent left_out =
        let skipping : list_any is_skipping so_far ≡ skips phase = same-skipping (macro_command_of stage) macros_then before ∙ start.skipping in
        subst (λ (l : List Command). HasExchanged offer negotiated (dialogue_with b negotiated before l) before fed faults (with_calls b negotiated macros (command ∷ left) t)) (sym (plan-is true sent))
        (lift-macros (macro_command_of stage) macros_then before command (left_of left) fed faults (with_calls b negotiated macros (command ∷ left) t)
        (subst (λ (more : List Exchange). HasExchanged offer negotiated more so_far fed faults (with_calls b negotiated macros (command ∷ left) t))
        (sym (dialogue-next so_far command (left_of left) (out-is so_far skipping ∙ over)))
        (subst (HasExchanged offer negotiated (next so_far command ∷ (if is_closed (next so_far command ∷ so_far) (left_of left) then [] else dialogue_with b negotiated (next so_far command ∷ so_far) (left_of left))) so_far fed faults)
        (sym (sent-goes left_out))
        (exchanged-one command stage left phase last so_far fed faults at_stage start.going in_order to start.ordered.3 skipping sent further))))

    exchanged-call : (over : Bool) → is_over phase stage ≡ over → (sent : Bool) → is_sent negotiated stage ≡ sent
        → HasExchanged offer negotiated (dialogue_with b negotiated before (left_of (command ∷ left))) before fed faults (with_calls b negotiated macros (command ∷ left) t)
    exchanged-call true over true sent =
        exchanged-unsent (ap (λ (o : Bool). if o then true else not (is_sent negotiated stage)) over)
        (ap (dialogue_with b negotiated before) (plan-is true sent)
        ∙ ap (λ (code : Option ℕ). dialogue_with b negotiated before ((macro_step code macros_then ++ command ∷ []) ++ left_of left)) (no-macros stage (skips phase) (over-is phase stage start.going ∙ over))
        ∙ dialogue-out before command (left_of left) (out-is before start.skipping ∙ over))
    exchanged-call true over false sent =
        exchanged-unsent (ap (λ (o : Bool). if o then true else not (is_sent negotiated stage)) over) (ap (dialogue_with b negotiated before) (plan-is false sent))
    exchanged-call false over false sent =
        exchanged-unsent (ap (λ (o : Bool). if o then true else not (is_sent negotiated stage)) over ∙ ap not sent) (ap (dialogue_with b negotiated before) (plan-is false sent))
    exchanged-call false over true sent =
        exchanged-sent over sent (ap (λ (o : Bool). if o then true else not (is_sent negotiated stage)) over ∙ ap not sent)

  -- ---- all calls

  exchanged-nothing : Tells []
  unfolding with_calls dialogue_with
  exchanged-nothing phase last es before fed faults start =
      record {
        transcript_is = refl;
        fed_is = sym (append-nil fed);
        channel_is = ap (idle offer negotiated) (start.no_edits refl);
        faults_is = refl;
        rank = rank-in phase last start.rank;
        no_loss = going-open phase start.going;
        by_client = λ is. absurd (true≢false (sym start.going ∙ ap is_going is));
      }

  pub exchanged : (left : List Command) → Tells left
  exchanged [] = exchanged-nothing
  exchanged (command ∷ left) = λ phase last es before fed faults start.
      exchanged-call command left (exchanged left) phase last es before fed faults start (is_over phase start.ordered.0) refl (is_sent negotiated start.ordered.0) refl
