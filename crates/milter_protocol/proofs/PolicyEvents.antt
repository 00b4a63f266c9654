-- With the answers of a policy an end whose caller answers is one over that policy.
use Rattle.std.proofs.Common.{◌≡◌, List, [], ◌∷◌, ◌++◌, Option, None, Some, refl, sym, ◌∙◌, ap, subst, append-nil}
use Rattle.milter_wire.specs.declared.stage.Stage.{Stage}
use Rattle.milter_protocol.specs.Behavior.{Behavior}
use Rattle.milter_protocol.specs.FilterEnds.{Received}
use Rattle.milter_protocol.specs.GivenAnswers.{IsInTurn}
use Rattle.milter_protocol.specs.OrderStates.{OrderState, order_step}
use Rattle.milter_protocol.specs.Steps.{Step, joined, steps}
use Rattle.milter_protocol.proofs.StepSequences.{steps-append}
use Rattle.milter_protocol.specs.Questions.{AskState, Event, Came, Wanted, answer_step, answers_of, ask_step, commands_in, event_step, events_after, events_with, unquestioned, wanted_of}
use Rattle.milter_protocol.proofs.PolicyAnswers.{step-asked, step-unasked}

abbrev pub lifted : Step OrderState → Step AskState
lifted x = record { after = unquestioned x.after; replies = x.replies }

abbrev these_of : Behavior → OrderState → Received → Option Stage → List Event
these_of b s received question =
    Came received ∷ answers_of b (ask_step (wanted_of b) (unquestioned s) received).after question

one-by : (b : Behavior) (s : OrderState) (received : Received) (question : Option Stage) → (ask_step (wanted_of b) (unquestioned s) received).after.asked ≡ question
    → steps (event_step (wanted_of b)) (unquestioned s) (these_of b s received question) ≡ lifted (order_step b s received)
one-by b s received None is =
    let x = ask_step (wanted_of b) (unquestioned s) received in
    let same : x.after ≡ unquestioned x.after.order_state = λ i. record { order_state = x.after.order_state; asked = is i } in
    let none = append-nil x.replies in
    (λ i. record { after = same i; replies = none i })
    ∙ ap lifted (sym (step-unasked b s received is))
one-by b s received (Some stage) is =
    let x = ask_step (wanted_of b) (unquestioned s) received in
    let y = answer_step x.after (b.decide stage x.after.order_state.shown.seen) in
    ap (λ rs. let z : Step AskState = record { after = y.after; replies = x.replies ++ rs } in z) (append-nil y.replies)
    ∙ ap lifted (sym (step-asked b s received stage is))

pub events-with : (b : Behavior) (s : OrderState) (received : List Received)
    → steps (event_step (wanted_of b)) (unquestioned s) (events_with b s received) ≡ lifted (steps (order_step b) s received)
events-with b s [] = refl
events-with b s (received ∷ more) =
    steps-append (event_step w) (unquestioned s) these rest
    ∙ ap (λ (t : AskState). joined one (steps (event_step w) t rest)) free
    ∙ ap (joined one) (events-with b next more)
    ∙ ap (λ (z : Step AskState). joined z (lifted (steps (order_step b) z.after.order_state more))) one-is
  where
    w : Wanted
    w = wanted_of b

    asked : AskState
    asked = (ask_step w (unquestioned s) received).after

    these : List Event
    these = Came received ∷ answers_of b asked asked.asked

    one : Step AskState
    one = steps (event_step w) (unquestioned s) these

    next : OrderState
    next = one.after.order_state

    rest : List Event
    rest = events_with b next more

    one-is : one ≡ lifted (order_step b s received)
    one-is = one-by b s received asked.asked refl

    free : one.after ≡ unquestioned next
    free = ap (λ (z : Step AskState). z.after) one-is ∙ ap (λ (z : Step AskState). unquestioned z.after.order_state) (sym one-is)

commands-answers : (b : Behavior) (s : AskState) (question : Option Stage) (rest : List Event) → commands_in (answers_of b s question ++ rest) ≡ commands_in rest
commands-answers b s None rest = refl
commands-answers b s (Some stage) rest = refl

pub commands-with : (b : Behavior) (s : OrderState) (received : List Received) → commands_in (events_with b s received) ≡ received
commands-with b s [] = refl
commands-with b s (received ∷ more) =
    let asked = (ask_step (wanted_of b) (unquestioned s) received).after in
    let these = Came received ∷ answers_of b asked asked.asked in
    let next = (steps (event_step (wanted_of b)) (unquestioned s) these).after.order_state in
    ap (λ rs. received ∷ rs) (commands-answers b asked asked.asked (events_with b next more) ∙ commands-with b next more)

-- ---- each command comes while no question is open, and each answer while one is

abbrev InTurn : Behavior → List Received → OrderState → Type 0
InTurn b received s = IsInTurn (wanted_of b) (unquestioned s) (events_with b s received)

in_turn-next : (b : Behavior) (s : OrderState) (received : Received) (more : List Received) → ((t : OrderState) → InTurn b more t)
    → (question : Option Stage) → (ask_step (wanted_of b) (unquestioned s) received).after.asked ≡ question
    → let w = wanted_of b in
    let these = these_of b s received question in
    IsInTurn w (unquestioned s) (these ++ events_with b (events_after w (unquestioned s) these).order_state more)
in_turn-next b s received more rest None is =
    let asked = (ask_step (wanted_of b) (unquestioned s) received).after in
    let next = asked.order_state in
    let free : asked ≡ unquestioned next = λ i. record { order_state = next; asked = is i } in
    (refl, subst (λ (t : AskState). IsInTurn (wanted_of b) t (events_with b next more)) (sym free) (rest next))
in_turn-next b s received more rest (Some stage) is =
    let asked = (ask_step (wanted_of b) (unquestioned s) received).after in
    let next = (answer_step asked (b.decide stage asked.order_state.shown.seen)).after.order_state in
    (refl, ((stage, is), rest next))

pub in_turn-with : (b : Behavior) (s : OrderState) (received : List Received) → InTurn b received s
in_turn-with b s [] = tt
in_turn-with b s (received ∷ more) =
    in_turn-next b s received more (λ t. in_turn-with b t more) (ask_step (wanted_of b) (unquestioned s) received).after.asked refl
