-- What an end takes, and then its policy answers, is what a core over that policy takes.
use Rattle.std.proofs.Common.{◌≡◌, ◌≢◌, ℕ, List, [], ◌∷◌, ◌++◌, take, None, Some, refl, sym, ◌∙◌, ap, append-nil, flat_map, subst}
use Rattle.std.proofs.lemmas.Grind.{flat_map-append}
use Rattle.milter_wire.specs.declared.stage.Stage.{Stage}
use Rattle.milter_wire.specs.Reply.{encoding}
use Rattle.milter_protocol.specs.declared.answer.Answer.{Answer}
use Rattle.milter_protocol.specs.declared.filter_fault.FilterFault.{FilterFault}
use Rattle.milter_protocol.specs.declared.filter_fault.FilterState.TheVariants.{Serving}
use Rattle.milter_protocol.specs.Behavior.{Behavior}
use Rattle.milter_protocol.specs.FilterEnds.{Received}
use Rattle.milter_protocol.specs.OrderStates.{OrderState, order_state_after, order_state_replies, order_step}
use Rattle.milter_protocol.specs.Steps.{Step}
use Rattle.milter_protocol.proofs.StepSequences.{after-append, replies-append}
use Rattle.milter_filter_stream.specs.Conversations.{Conversation, EndsThere, GivesUpIn, TakesIn, answered}
use Rattle.milter_filter.specs.Cores.{Core, EndsAtReplies, GivesUp, Takes}
use Rattle.milter_protocol.specs.Questions.{AskState, Wanted, answer_step, ask_after, ask_replies, ask_step, sent_answer, unquestioned, wanted_of}
use Rattle.milter_filter_stream.specs.Streams.{read_in}
use Rattle.milter_filter_stream.proofs.FirstReplies.{no_replies, serves}
use Rattle.milter_filter_stream.proofs.UndoneData.{answered-state}
use Rattle.milter_protocol.proofs.PolicyAnswers.{step-asked, step-loud, steps-unasked}

abbrev pub core_of : {P : Type 0} → P → Conversation → Core P
core_of policy c = record { policy = policy; order_state = c.state.order_state; unread = c.unread; pending = c.pending }

abbrev pub free_of : Behavior → OrderState → List ℕ → Conversation
free_of b s unread = record { wanted = wanted_of b; state = unquestioned s; unread = unread; pending = [] }

module _ (b : Behavior) (s : OrderState) where
  abbrev w : Wanted
  w = wanted_of b

  pub gives-up : (received : List Received) (fault : FilterFault) → GivesUpIn w (unquestioned s) received fault → GivesUp b s received fault
  gives-up received fault g =
      let all = steps-unasked b s received (ap (λ (t : AskState). t.asked) g.failed) in
      record {
        failed = ap (λ (x : Step OrderState). x.after) all ∙ ap (λ (t : AskState). t.order_state) g.failed;
        silent = ap (λ (x : Step OrderState). x.replies) all ∙ g.silent;
      }

  ends-core : (bytes : List ℕ) → EndsThere w (unquestioned s) bytes → EndsAtReplies b s bytes
  ends-core bytes e =
      record {
        before = e.before;
        last = e.last;
        commands = e.commands;
        silent = ap (λ (x : Step OrderState). x.replies) (steps-unasked b s e.before e.unasked) ∙ e.silent;
        nothing_left = e.nothing_left;
      }

  module _ {P : Type 0} (policy : P) (unread piece : List ℕ) (n : ℕ) (d : Conversation) (t : TakesIn (free_of b s unread) piece n d) where
    abbrev bytes : List ℕ
    bytes = unread ++ take n piece

    pub takes-unasked : d.state.asked ≡ None → Takes b (core_of policy (free_of b s unread)) piece n (core_of policy d)
    takes-unasked none =
        let all = steps-unasked b s (read_in bytes) (ap (λ (x : AskState). x.asked) (sym t.state) ∙ none) in
        record {
          policy = refl;
          within = t.within;
          progress = t.progress;
          order_state = ap (λ (x : AskState). x.order_state) t.state ∙ ap (λ (x : Step OrderState). x.after) (sym all);
          pending = t.pending ∙ ap (λ (x : Step OrderState). flat_map encoding x.replies) (sym all);
          going = t.going;
          unread = t.unread;
          unfinished = t.unfinished;
          nothing_unread = t.nothing_unread;
          quit = t.quit;
          silent = t.silent;
          first = λ some. ends-core bytes (t.first some);
          all = λ nothing. t.all nothing none;
        }

    module _ (stage : Stage) (asks : d.state.asked ≡ Some stage) where
      abbrev a : Answer
      a = b.decide stage d.state.order_state.shown.seen

      some : d.state.asked ≢ None
      some none = let no : Some stage ≡ None = sym asks ∙ none in absurd cc

      abbrev e : EndsThere w (unquestioned s) bytes
      e = t.asks some

      abbrev was : AskState
      was = ask_after w (unquestioned s) e.before

      abbrev s1 : OrderState
      s1 = was.order_state

      abbrev x : Step AskState
      x = ask_step w (unquestioned s1) e.last

      was-free : was ≡ unquestioned s1
      was-free = λ i. record { order_state = s1; asked = e.unasked i }

      before-is : order_state_after b s e.before ≡ s1
      before-is = ap (λ (y : Step OrderState). y.after) (steps-unasked b s e.before e.unasked)

      now-is : d.state ≡ x.after
      now-is =
          t.state ∙ ap (ask_after w (unquestioned s)) e.commands
          ∙ after-append (ask_step w) (unquestioned s) e.before (e.last ∷ [])
          ∙ ap (λ (y : AskState). (ask_step w y e.last).after) was-free

      asks-there : x.after.asked ≡ Some stage
      asks-there = ap (λ (y : AskState). y.asked) (sym now-is) ∙ asks

      asked-replies : ask_replies w (unquestioned s) (read_in bytes) ≡ x.replies
      asked-replies =
          ap (ask_replies w (unquestioned s)) e.commands
          ∙ replies-append (ask_step w) (unquestioned s) e.before (e.last ∷ [])
          ∙ ap (λ rs. rs ++ ((ask_step w was e.last).replies ++ [])) e.silent
          ∙ append-nil (ask_step w was e.last).replies
          ∙ ap (λ (y : AskState). (ask_step w y e.last).replies) was-free

      nothing-asked : flat_map encoding x.replies ≡ []
      nothing-asked = ap (flat_map encoding) (sym asked-replies) ∙ sym t.pending ∙ (t.asks_alone some).1

      abbrev y : Step AskState
      y = answer_step d.state a

      answer-is : answer_step x.after (b.decide stage x.after.order_state.shown.seen) ≡ y
      answer-is = ap (λ (z : AskState). answer_step z (b.decide stage z.order_state.shown.seen)) (sym now-is)

      step-is : order_step b s1 e.last ≡ record { after = y.after.order_state; replies = x.replies ++ y.replies }
      step-is =
          step-asked b s1 e.last stage asks-there
          ∙ ap (λ (z : Step AskState). let r : Step OrderState = record { after = z.after.order_state; replies = x.replies ++ z.replies } in r) answer-is

      after-is : order_state_after b s (read_in bytes) ≡ y.after.order_state
      after-is =
          ap (order_state_after b s) e.commands
          ∙ after-append (order_step b) s e.before (e.last ∷ [])
          ∙ ap (λ (z : OrderState). (order_step b z e.last).after) before-is
          ∙ ap (λ (z : Step OrderState). z.after) step-is

      replies-are : order_state_replies b s (read_in bytes) ≡ x.replies ++ y.replies
      replies-are =
          ap (order_state_replies b s) e.commands
          ∙ replies-append (order_step b) s e.before (e.last ∷ [])
          ∙ ap (λ rs. rs ++ ((order_step b (order_state_after b s e.before) e.last).replies ++ [])) (ap (λ (z : Step OrderState). z.replies) (steps-unasked b s e.before e.unasked) ∙ e.silent)
          ∙ append-nil (order_step b (order_state_after b s e.before) e.last).replies
          ∙ ap (λ (z : OrderState). (order_step b z e.last).replies) before-is
          ∙ ap (λ (z : Step OrderState). z.replies) step-is

      pending-is : d.pending ++ flat_map encoding y.replies ≡ flat_map encoding (order_state_replies b s (read_in bytes))
      pending-is =
          ap (λ ps. ps ++ flat_map encoding y.replies) ((t.asks_alone some).1 ∙ sym nothing-asked)
          ∙ sym (flat_map-append encoding x.replies y.replies)
          ∙ ap (flat_map encoding) (sym replies-are)

      loud : d.pending ++ flat_map encoding y.replies ≡ [] → ⊥
      loud nothing =
          let none : y.replies ≡ [] = no_replies y.replies (ap (λ ps. ps ++ flat_map encoding y.replies) (sym (t.asks_alone some).1) ∙ nothing) in
          step-loud w s1 e.last stage (b.decide stage x.after.order_state.shown.seen) asks-there
          (ap (λ (z : Step AskState). z.replies) answer-is ∙ none)

      serving : y.after.order_state.state ≡ Serving
      serving = answered-state d.state.order_state (sent_answer d.state.order_state.negotiated a) d.state.asked ∙ (t.asks_alone some).0

      pub takes-asked : Takes b (core_of policy (free_of b s unread)) piece n (core_of policy (answered d a))
      takes-asked =
          record {
            policy = refl;
            within = t.within;
            progress = t.progress;
            order_state = sym after-is;
            pending = pending-is;
            going = λ fault failed. serves fault (sym serving ∙ failed);
            unread = λ still. t.unread (t.asks_alone some).0;
            unfinished = t.unfinished;
            nothing_unread = λ other. absurd (other serving);
            quit = λ other. absurd (other serving);
            silent = λ other. absurd (other serving);
            first = λ waits. ends-core bytes e;
            all = λ nothing. absurd (loud nothing);
          }

-- ---- at the end that a core has

module _ (b : Behavior) (c : Conversation) (wanted : c.wanted ≡ wanted_of b) (free : c.state.asked ≡ None) where
  state-is : c.state ≡ unquestioned c.state.order_state
  state-is = λ i. record { order_state = c.state.order_state; asked = free i }

  pub core-gives-up : (received : List Received) (fault : FilterFault) → GivesUpIn c.wanted c.state received fault → GivesUp b c.state.order_state received fault
  core-gives-up received fault g =
      gives-up b c.state.order_state received fault
      (subst (λ s. GivesUpIn (wanted_of b) s received fault) state-is (subst (λ w. GivesUpIn w c.state received fault) wanted g))

  module _ {P : Type 0} (policy : P) (piece : List ℕ) (n : ℕ) (d : Conversation) (none : c.pending ≡ []) (t : TakesIn c piece n d) where
    same : c ≡ free_of b c.state.order_state c.unread
    same = λ i. record { wanted = wanted i; state = record { order_state = c.state.order_state; asked = free i }; unread = c.unread; pending = none i }

    pub core-takes : d.state.asked ≡ None → Takes b (core_of policy c) piece n (core_of policy d)
    core-takes nothing =
        subst (λ x. Takes b (core_of policy x) piece n (core_of policy d)) (sym same)
        (takes-unasked b c.state.order_state policy c.unread piece n d (subst (λ x. TakesIn x piece n d) same t) nothing)

    pub core-answers : (stage : Stage) → d.state.asked ≡ Some stage → Takes b (core_of policy c) piece n (core_of policy (answered d (b.decide stage d.state.order_state.shown.seen)))
    core-answers stage asks =
        subst (λ x. Takes b (core_of policy x) piece n (core_of policy (answered d (b.decide stage d.state.order_state.shown.seen)))) (sym same)
        (takes-asked b c.state.order_state policy c.unread piece n d (subst (λ x. TakesIn x piece n d) same t) stage asks)
