-- An end whose caller answers goes on by pieces as by the whole.
use Rattle.std.proofs.Common.{◌≡◌, ◌≢◌, ℕ, List, [], ◌∷◌, ◌++◌, take, drop, map, Option, None, Some, refl, sym, ◌∙◌, ap, subst, append_assoc, append-nil, flat_map, take-append-drop}
use Rattle.std.proofs.lemmas.Grind.{flat_map-append}
use Rattle.std.proofs.lemmas.List.{map-append}
use Rattle.milter_fields.specs.declared.fault.WireFault.{WireFault}
use Rattle.milter_fields.specs.Stream.{Division, IsUnfinished, divide, length_fault}
use Rattle.milter_fields.proofs.StreamLaws.{divide-append, divide-unfinished, length_fault-unfinished}
use Rattle.milter_wire.specs.Frames.{frame_command}
use Rattle.milter_wire.specs.Reply.{encoding}
use Rattle.milter_wire.specs.declared.stage.Stage.{Stage}
use Rattle.milter_wire.specs.declared.stage.Stage.TheVariants.{Eob}
use Rattle.milter_protocol.specs.declared.answer.Answer.{Answer}
use Rattle.milter_protocol.specs.declared.stage_order.CommandOrder.{CommandOrder}
use Rattle.milter_protocol.specs.declared.filter_fault.FilterFault.{FilterFault}
use Rattle.milter_protocol.specs.declared.filter_fault.FilterState.TheVariants.{Serving}
use Rattle.milter_protocol.specs.GivenAnswers.{IsInTurn}
use Rattle.milter_protocol.specs.FilterEnds.{Received}
use Rattle.milter_protocol.specs.Steps.{Step, joined, silent, steps}
use Rattle.milter_protocol.proofs.FilterStates.{failed_quit, failed_serving, quit_serving, same_fault}
use Rattle.milter_protocol.proofs.StepSequences.{after-append, replies-append}
use Rattle.milter_filter_stream.specs.Conversations.{Conversation, EndsThere, GivesUpIn, GoesOnIn, TakesIn, answered, conversation_by, fresh_conversation, given_up_in}
use Rattle.milter_filter_stream.specs.Conversations.{unread_after}
use Rattle.milter_protocol.specs.Questions.{AskState, Event, Answered, Came, IsTaking, ProgressReported, Wanted, answer_step, ask_after, ask_replies, ask_step, commands_in, event_step, events_after, events_replies, sent_answer}
use Rattle.milter_filter_stream.specs.Streams.{fault_after, read_in, received_in}
use Rattle.milter_filter.proofs.CutInputs.{joined as received-joined, received-begin}
use Rattle.milter_protocol.proofs.EndedQuestions.{ended-stays}
use Rattle.milter_filter_stream.proofs.UndoneData.{answered-state}

-- ---- events

came-append : (first second : List Event) → commands_in (first ++ second) ≡ commands_in first ++ commands_in second
came-append [] second = refl
came-append (Came received ∷ first) second = ap (λ rs. received ∷ rs) (came-append first second)
came-append (Answered answer ∷ first) second = came-append first second
came-append (ProgressReported ∷ first) second = came-append first second

came-all : (received : List Received) → commands_in (map Came received) ≡ received
came-all [] = refl
came-all (first ∷ more) = ap (λ rs. first ∷ rs) (came-all more)

steps-came : (w : Wanted) (s : AskState) (received : List Received) → steps (event_step w) s (map Came received) ≡ steps (ask_step w) s received
steps-came w s [] = refl
steps-came w s (first ∷ more) = ap (joined (ask_step w s first)) (steps-came w (ask_step w s first).after more)

-- ---- events in turn

turn-append : (w : Wanted) (s : AskState) (first second : List Event) → IsInTurn w s first → IsInTurn w (events_after w s first) second → IsInTurn w s (first ++ second)
turn-append w s [] second these others = others
turn-append w s (Came received ∷ first) second these others = (these.0, turn-append w (event_step w s (Came received)).after first second these.1 others)
turn-append w s (Answered answer ∷ first) second these others = (these.0, turn-append w (event_step w s (Answered answer)).after first second these.1 others)
turn-append w s (ProgressReported ∷ first) second these others = (these.0, turn-append w s first second these.1 others)

-- a question that is open stays so
asked-stays : (w : Wanted) (s : AskState) (received : List Received) (stage : Stage) → s.asked ≡ Some stage → (ask_after w s received).asked ≡ Some stage
asked-stays w s received stage is =
    let stuck = λ (taking : IsTaking s). let no : Some stage ≡ None = sym is ∙ taking.unasked in absurd cc in
    ap (λ (t : AskState). t.asked) (ended-stays w s received stuck).0 ∙ is

-- commands come in turn where they leave no question open
came-turn : (w : Wanted) (s : AskState) (received : List Received) → (ask_after w s received).asked ≡ None → IsInTurn w s (map Came received)
came-turn w s [] none = tt
came-turn w s (first ∷ more) none = (by_asked s.asked refl, came-turn w (ask_step w s first).after more none)
  where
    by_asked : (asked : Option Stage) → s.asked ≡ asked → s.asked ≡ None
    by_asked None is = is
    by_asked (Some stage) is = absurd (let no : Some stage ≡ None = sym (asked-stays w s (first ∷ more) stage is) ∙ none in absurd cc)

-- or where the last of them opens one
last-turn : (w : Wanted) (s : AskState) (before : List Received) (last : Received) → (ask_after w s before).asked ≡ None → IsInTurn w s (map Came (before ++ last ∷ []))
last-turn w s before last none =
    subst (IsInTurn w s) (sym (map-append Came before (last ∷ [])))
    (turn-append w s (map Came before) (Came last ∷ []) (came-turn w s before none)
    (ap (λ (x : Step AskState). x.after.asked) (steps-came w s before) ∙ none, tt))

-- a fault in the length field comes only after the end
settled : (w : Wanted) (s : AskState) (f : Option WireFault) → (IsTaking s → f ≡ None) → (ask_after w s (fault_after f) ≡ s) × (ask_replies w s (fault_after f) ≡ [])
settled w s None quiet = (refl, refl)
settled w s (Some f) quiet = ended-stays w s (fault_after (Some f)) (λ taking. some_fault f (quiet taking))
  where
    some_fault : (g : WireFault) → Some g ≡ None → ⊥
    some_fault g e = absurd cc

-- it goes on to itself by nothing
pub goes_on-stays : (c : Conversation) → c.state.order_state.state ≡ Serving → IsUnfinished c.unread → GoesOnIn c [] [] [] c
goes_on-stays c serving unfinished =
    let d = ap divide (append-nil c.unread) ∙ divide-unfinished c.unread unfinished in
    record {
      wanted = refl;
      commands =
          sym (ap (λ (x : Division). map frame_command x.frames ++ fault_after (length_fault x.rest)) d ∙ ap fault_after (length_fault-unfinished c.unread unfinished));
      in_turn = tt;
      state = refl;
      replied = sym (append-nil c.pending);
      unread = λ still. ap (λ (x : Division). x.rest) (sym d);
      unfinished = λ still. unfinished;
      nothing_unread = λ quit. absurd (quit_serving (sym quit ∙ serving));
      at_fault = λ fault failed. absurd (failed_serving fault (sym failed ∙ serving));
    }

pub fresh-begins : (order : CommandOrder) (wanted : Wanted) → GoesOnIn (fresh_conversation order wanted) [] [] [] (fresh_conversation order wanted)
fresh-begins order wanted = goes_on-stays (fresh_conversation order wanted) refl tt

-- ---- one step more

module _ (old c : Conversation) (events : List Event) (input sent : List ℕ) (p : GoesOnIn old events input sent c) where
  abbrev w : Wanted
  w = old.wanted

  -- by events of which these commands came with these bytes
  module _ (new : Conversation) (these : List Event) (more : List ℕ) (same : new.wanted ≡ c.wanted) (step : steps (event_step w) c.state these ≡ record { after = new.state; replies = (steps (event_step w) c.state these).replies })
      (put : new.pending ≡ c.pending ++ flat_map encoding (steps (event_step w) c.state these).replies)
      (came : received_in (old.unread ++ (input ++ more)) ≡ received_in (old.unread ++ input) ++ commands_in these) where
    came-more : commands_in (events ++ these) ≡ received_in (old.unread ++ (input ++ more))
    came-more = came-append events these ∙ ap (λ rs. rs ++ commands_in these) p.commands ∙ sym came

    turn-more : IsInTurn w c.state these → IsInTurn w old.state (events ++ these)
    turn-more turn = turn-append w old.state events these p.in_turn (subst (λ (s : AskState). IsInTurn w s these) p.state turn)

    state-more : new.state ≡ events_after w old.state (events ++ these)
    state-more =
        ap (λ (x : Step AskState). x.after) (sym step)
        ∙ ap (λ (s : AskState). (steps (event_step w) s these).after) p.state
        ∙ sym (after-append (event_step w) old.state events these)

    replied-more : sent ++ new.pending ≡ old.pending ++ flat_map encoding (events_replies w old.state (events ++ these))
    replied-more =
        ap (λ ps. sent ++ ps) put
        ∙ sym (append_assoc sent c.pending (flat_map encoding (steps (event_step w) c.state these).replies))
        ∙ ap (λ ps. ps ++ flat_map encoding (steps (event_step w) c.state these).replies) p.replied
        ∙ append_assoc old.pending (flat_map encoding (events_replies w old.state events)) (flat_map encoding (steps (event_step w) c.state these).replies)
        ∙ ap (λ (s : AskState). old.pending ++ (flat_map encoding (events_replies w old.state events) ++ flat_map encoding (steps (event_step w) s these).replies)) p.state
        ∙ ap (λ ps. old.pending ++ ps) (sym (flat_map-append encoding (events_replies w old.state events) (steps (event_step w) (events_after w old.state events) these).replies)
        ∙ ap (flat_map encoding) (sym (replies-append (event_step w) old.state events these)))

  -- an answer, or a report of progress
  stays-with : (event : Event) (step : Step AskState) → event_step w c.state event ≡ step → commands_in (event ∷ []) ≡ [] → step.after.order_state.state ≡ c.state.order_state.state
      → IsInTurn w c.state (event ∷ []) → GoesOnIn old (events ++ event ∷ []) input sent (conversation_by c step)
  stays-with event step is no_command kept turn =
      let new = conversation_by c step in
      let these = event ∷ [] in
      let all : steps (event_step w) c.state these ≡ step = ap (λ (x : Step AskState). joined x (silent x.after)) is ∙ (let none = append-nil step.replies in λ i. record { after = step.after; replies = none i }) in
      let put : new.pending ≡ c.pending ++ flat_map encoding (steps (event_step w) c.state these).replies = ap (λ (x : Step AskState). c.pending ++ flat_map encoding x.replies) (sym all) in
      let replies_are = ap (λ (x : Step AskState). x.replies) all in
      let as_step : steps (event_step w) c.state these ≡ record { after = new.state; replies = (steps (event_step w) c.state these).replies } =
      all ∙ (λ i. record { after = step.after; replies = (sym replies_are) i }) in
      let at = append-nil input in
      let came : received_in (old.unread ++ (input ++ [])) ≡ received_in (old.unread ++ input) ++ commands_in these =
      ap (λ xs. received_in (old.unread ++ xs)) at ∙ sym (append-nil (received_in (old.unread ++ input))) ∙ ap (λ rs. received_in (old.unread ++ input) ++ rs) (sym no_command) in
      record {
        wanted = p.wanted;
        commands = came-more new these [] refl as_step put came ∙ ap (λ xs. received_in (old.unread ++ xs)) at;
        in_turn = turn-more new these [] refl as_step put came turn;
        state = state-more new these [] refl as_step put came;
        replied = replied-more new these [] refl as_step put came;
        unread = λ serving. p.unread (sym kept ∙ serving);
        unfinished = λ serving. p.unfinished (sym kept ∙ serving);
        nothing_unread = λ quit. p.nothing_unread (sym kept ∙ quit);
        at_fault = λ fault failed. p.at_fault fault (sym kept ∙ failed);
      }

  pub goes_on-answers : (stage : Stage) (answer : Answer) → c.state.asked ≡ Some stage → GoesOnIn old (events ++ Answered answer ∷ []) input sent (answered c answer)
  goes_on-answers stage answer asked =
      stays-with (Answered answer) (answer_step c.state answer) refl refl
      (answered-state c.state.order_state (sent_answer c.state.order_state.negotiated answer) c.state.asked) ((stage, asked), tt)

  pub goes_on-reports : c.state.asked ≡ Some Eob → GoesOnIn old (events ++ ProgressReported ∷ []) input sent (conversation_by c (event_step old.wanted c.state ProgressReported))
  goes_on-reports asked = stays-with ProgressReported (event_step w c.state ProgressReported) refl refl refl (asked, tt)

  pub goes_on-sends : (n : ℕ) → GoesOnIn old events input (sent ++ take n c.pending) (record c { pending = drop n c.pending })
  goes_on-sends n = record {
    wanted = p.wanted;
    commands = p.commands;
    in_turn = p.in_turn;
    state = p.state;
    replied = append_assoc sent (take n c.pending) (drop n c.pending) ∙ ap (λ xs. sent ++ xs) (take-append-drop n c.pending) ∙ p.replied;
    unread = p.unread;
    unfinished = p.unfinished;
    nothing_unread = p.nothing_unread;
    at_fault = p.at_fault;
  }

  received-more : (more : List ℕ) → c.state.order_state.state ≡ Serving → received_in (old.unread ++ (input ++ more)) ≡ received_in (old.unread ++ input) ++ received_in (c.unread ++ more)
  received-more more serving =
      ap received_in (sym (append_assoc old.unread input more))
      ∙ received-joined (old.unread ++ input) more c.unread (p.unread serving) (length_fault-unfinished c.unread (p.unfinished serving))

  -- the commands of a piece leave no question open, or the last one opens it
  takes-turn : (new : Conversation) (bytes : List ℕ) → IsTaking c.state → (new.state.asked ≢ None → EndsThere w c.state bytes) → ask_after w c.state (received_in bytes) ≡ new.state
      → IsInTurn w c.state (map Came (received_in bytes))
  takes-turn new bytes taking ends all = by_asked new.state.asked refl
    where
      alone : (e : EndsThere w c.state bytes) → received_in bytes ≡ e.before ++ e.last ∷ []
      alone e =
          ap (λ xs. read_in bytes ++ fault_after (length_fault xs)) e.nothing_left
          ∙ append-nil (read_in bytes) ∙ e.commands

      by_end : (e : EndsThere w c.state bytes) → IsInTurn w c.state (map Came (received_in bytes))
      by_end e = subst (λ rs. IsInTurn w c.state (map Came rs)) (sym (alone e)) (last-turn w c.state e.before e.last e.unasked)

      by_asked : (asked : Option Stage) → new.state.asked ≡ asked → IsInTurn w c.state (map Came (received_in bytes))
      by_asked None is = came-turn w c.state (received_in bytes) (ap (λ (s : AskState). s.asked) all ∙ is)
      by_asked (Some stage) is = by_end (ends (λ none. let no : Some stage ≡ None = sym is ∙ none in absurd cc))

  pub goes_on-takes : (new : Conversation) (piece : List ℕ) (n : ℕ) → IsTaking c.state → c.pending ≡ [] → TakesIn c piece n new
      → GoesOnIn old (events ++ map Came (received_in (c.unread ++ take n piece))) (input ++ take n piece) sent new
  goes_on-takes new piece n taking none t =
      let more = take n piece in
      let bytes = c.unread ++ more in
      let rs = received_in bytes in
      let these = map Came rs in
      let f = length_fault (divide bytes).rest in
      let quiet : IsTaking new.state → f ≡ None = λ still. ap length_fault (sym (t.unread still.serving)) ∙ length_fault-unfinished new.unread t.unfinished in
      let end = settled w new.state f quiet in
      let now : new.state ≡ ask_after w c.state (read_in bytes) = t.state ∙ ap (λ v. ask_after v c.state (read_in bytes)) p.wanted in
      let after : (steps (event_step w) c.state these).after ≡ new.state =
      ap (λ (x : Step AskState). x.after) (steps-came w c.state rs)
      ∙ after-append (ask_step w) c.state (read_in bytes) (fault_after f)
      ∙ ap (λ (s : AskState). ask_after w s (fault_after f)) (sym now) ∙ end.0 in
      let replies : (steps (event_step w) c.state these).replies ≡ ask_replies w c.state (read_in bytes) =
      ap (λ (x : Step AskState). x.replies) (steps-came w c.state rs)
      ∙ replies-append (ask_step w) c.state (read_in bytes) (fault_after f)
      ∙ ap (λ (s : AskState). ask_replies w c.state (read_in bytes) ++ ask_replies w s (fault_after f)) (sym now)
      ∙ ap (λ xs. ask_replies w c.state (read_in bytes) ++ xs) end.1
      ∙ append-nil (ask_replies w c.state (read_in bytes)) in
      let as_step : steps (event_step w) c.state these ≡ record { after = new.state; replies = (steps (event_step w) c.state these).replies } =
      λ i. record { after = after i; replies = (steps (event_step w) c.state these).replies } in
      let put : new.pending ≡ c.pending ++ flat_map encoding (steps (event_step w) c.state these).replies =
      t.pending ∙ ap (λ v. flat_map encoding (ask_replies v c.state (read_in bytes))) p.wanted ∙ ap (flat_map encoding) (sym replies)
      ∙ ap (λ ps. ps ++ flat_map encoding (steps (event_step w) c.state these).replies) (sym none) in
      let came : received_in (old.unread ++ (input ++ more)) ≡ received_in (old.unread ++ input) ++ commands_in these =
      received-more more taking.serving ∙ ap (λ xs. received_in (old.unread ++ input) ++ xs) (sym (came-all rs)) in
      let all : ask_after w c.state rs ≡ new.state =
      after-append (ask_step w) c.state (read_in bytes) (fault_after f)
      ∙ ap (λ (s : AskState). ask_after w s (fault_after f)) (sym now) ∙ end.0 in
      let turn = takes-turn new bytes taking (λ some. subst (λ v. EndsThere v c.state bytes) p.wanted (t.asks some)) all in
      record {
        wanted = t.wanted ∙ p.wanted;
        commands = came-more new these more t.wanted as_step put came;
        in_turn = turn-more new these more t.wanted as_step put came turn;
        state = state-more new these more t.wanted as_step put came;
        replied = replied-more new these more t.wanted as_step put came;
        unread = λ serving.
            t.unread serving
            ∙ ap (λ us. (divide (us ++ more)).rest) (p.unread taking.serving)
            ∙ ap (λ (x : Division). x.rest) (sym (divide-append (old.unread ++ input) more))
            ∙ ap (λ xs. (divide xs).rest) (append_assoc old.unread input more);
        unfinished = λ serving. t.unfinished;
        nothing_unread = λ quit. t.nothing_unread (λ serving. quit_serving (sym quit ∙ serving));
        at_fault = λ fault failed. absurd (t.going fault failed);
      }

  pub goes_on-gives_up : (piece : List ℕ) (fault : FilterFault) → IsTaking c.state → c.pending ≡ [] → GivesUpIn c.wanted c.state (received_in (c.unread ++ piece)) fault
      → GoesOnIn old (events ++ map Came (received_in (c.unread ++ piece))) (input ++ piece) sent (given_up_in c fault)
  goes_on-gives_up piece fault taking none g =
      let new = given_up_in c fault in
      let rs = received_in (c.unread ++ piece) in
      let these = map Came rs in
      let after : (steps (event_step w) c.state these).after ≡ new.state =
      ap (λ (x : Step AskState). x.after) (steps-came w c.state rs) ∙ ap (λ v. ask_after v c.state rs) (sym p.wanted) ∙ g.failed in
      let replies : (steps (event_step w) c.state these).replies ≡ [] =
      ap (λ (x : Step AskState). x.replies) (steps-came w c.state rs) ∙ ap (λ v. ask_replies v c.state rs) (sym p.wanted) ∙ g.silent in
      let as_step : steps (event_step w) c.state these ≡ record { after = new.state; replies = (steps (event_step w) c.state these).replies } =
      λ i. record { after = after i; replies = (steps (event_step w) c.state these).replies } in
      let put : new.pending ≡ c.pending ++ flat_map encoding (steps (event_step w) c.state these).replies =
      ap (flat_map encoding) (sym replies) ∙ ap (λ ps. ps ++ flat_map encoding (steps (event_step w) c.state these).replies) (sym none) in
      let came : received_in (old.unread ++ (input ++ piece)) ≡ received_in (old.unread ++ input) ++ commands_in these =
      received-more piece taking.serving ∙ ap (λ xs. received_in (old.unread ++ input) ++ xs) (sym (came-all rs)) in
      record {
        wanted = p.wanted;
        commands = came-more new these piece refl as_step put came;
        in_turn =
            turn-more new these piece refl as_step put came
            (came-turn w c.state rs (ap (λ (t : AskState). t.asked) (ap (λ v. ask_after v c.state rs) (sym p.wanted) ∙ g.failed)));
        state = state-more new these piece refl as_step put came;
        replied = replied-more new these piece refl as_step put came;
        unread = λ serving. absurd (failed_serving fault serving);
        unfinished = λ serving. absurd (failed_serving fault serving);
        nothing_unread = λ quit. absurd (failed_quit fault quit);
        at_fault = λ other is. ap unread_after (same_fault fault other is);
      }

  -- after the end nothing more is done
  pub goes_on-ended : (more : List ℕ) → c.state.order_state.state ≢ Serving → c.state.asked ≡ None → (rest : List Received) × GoesOnIn old (events ++ map Came rest) (input ++ more) sent c
  goes_on-ended more ended unasked =
      let begin = received-begin (old.unread ++ input) more in
      let rs = begin.0 in
      let these = map Came rs in
      let stays = ended-stays w c.state rs (λ taking. ended taking.serving) in
      let after : (steps (event_step w) c.state these).after ≡ c.state = ap (λ (x : Step AskState). x.after) (steps-came w c.state rs) ∙ stays.0 in
      let replies : (steps (event_step w) c.state these).replies ≡ [] = ap (λ (x : Step AskState). x.replies) (steps-came w c.state rs) ∙ stays.1 in
      let as_step : steps (event_step w) c.state these ≡ record { after = c.state; replies = (steps (event_step w) c.state these).replies } =
      λ i. record { after = after i; replies = (steps (event_step w) c.state these).replies } in
      let put : c.pending ≡ c.pending ++ flat_map encoding (steps (event_step w) c.state these).replies =
      sym (append-nil c.pending) ∙ ap (λ xs. c.pending ++ flat_map encoding xs) (sym replies) in
      let came : received_in (old.unread ++ (input ++ more)) ≡ received_in (old.unread ++ input) ++ commands_in these =
      ap received_in (sym (append_assoc old.unread input more)) ∙ begin.1 ∙ ap (λ xs. received_in (old.unread ++ input) ++ xs) (sym (came-all rs)) in (
        rs,
        record {
          wanted = p.wanted;
          commands = came-more c these more refl as_step put came;
          in_turn = turn-more c these more refl as_step put came (came-turn w c.state rs (ap (λ (t : AskState). t.asked) stays.0 ∙ unasked));
          state = state-more c these more refl as_step put came;
          replied = replied-more c these more refl as_step put came;
          unread = λ serving. absurd (ended serving);
          unfinished = λ serving. absurd (ended serving);
          nothing_unread = p.nothing_unread;
          at_fault = p.at_fault;
        },
      )

-- ---- one part after the other

module _ (old mid new : Conversation) (events these : List Event) (input sent more sent_then : List ℕ) (p : GoesOnIn old events input sent mid) (q : GoesOnIn mid these more sent_then new)
    (serving : mid.state.order_state.state ≡ Serving) where
  abbrev v : Wanted
  v = old.wanted

  abbrev first : List ℕ
  first = flat_map encoding (events_replies v old.state events)

  abbrev then : List ℕ
  then = flat_map encoding (events_replies v (events_after v old.state events) these)

  then-is : flat_map encoding (events_replies mid.wanted mid.state these) ≡ then
  then-is =
      ap (λ u. flat_map encoding (events_replies u mid.state these)) p.wanted
      ∙ ap (λ (s : AskState). flat_map encoding (events_replies v s these)) p.state

  both : first ++ then ≡ flat_map encoding (events_replies v old.state (events ++ these))
  both =
      sym (flat_map-append encoding (events_replies v old.state events) (events_replies v (events_after v old.state events) these))
      ∙ ap (flat_map encoding) (sym (replies-append (event_step v) old.state events these))

  replied-both : (sent ++ sent_then) ++ new.pending ≡ old.pending ++ flat_map encoding (events_replies v old.state (events ++ these))
  replied-both =
      append_assoc sent sent_then new.pending
      ∙ ap (λ ps. sent ++ ps) (q.replied ∙ ap (λ ps. mid.pending ++ ps) then-is)
      ∙ sym (append_assoc sent mid.pending then)
      ∙ ap (λ ps. ps ++ then) p.replied
      ∙ append_assoc old.pending first then
      ∙ ap (λ ps. old.pending ++ ps) both

  turn-both : IsInTurn v (events_after v old.state events) these
  turn-both = subst (λ (s : AskState). IsInTurn v s these) p.state (subst (λ u. IsInTurn u mid.state these) p.wanted q.in_turn)

  pub goes_on-joins : GoesOnIn old (events ++ these) (input ++ more) (sent ++ sent_then) new
  goes_on-joins = record {
    wanted = q.wanted ∙ p.wanted;
    commands =
        came-append events these
        ∙ ap (λ rs. rs ++ commands_in these) p.commands
        ∙ ap (λ rs. received_in (old.unread ++ input) ++ rs) q.commands
        ∙ sym (received-more old mid events input sent p more serving);
    in_turn = turn-append v old.state events these p.in_turn turn-both;
    state =
        q.state
        ∙ ap (λ u. events_after u mid.state these) p.wanted
        ∙ ap (λ (s : AskState). events_after v s these) p.state
        ∙ sym (after-append (event_step v) old.state events these);
    replied = replied-both;
    unread = λ still.
        q.unread still
        ∙ ap (λ us. (divide (us ++ more)).rest) (p.unread serving)
        ∙ ap (λ (x : Division). x.rest) (sym (divide-append (old.unread ++ input) more))
        ∙ ap (λ xs. (divide xs).rest) (append_assoc old.unread input more);
    unfinished = q.unfinished;
    nothing_unread = q.nothing_unread;
    at_fault = q.at_fault;
  }
