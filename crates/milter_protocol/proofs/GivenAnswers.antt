-- Where all happens in turn, the commands and the answers determine the replies and what is kept.
use Rattle.std.proofs.Common.{◌≡◌, List, [], ◌∷◌, Option, None, Some, refl, sym, ◌∙◌, ap, subst, append-nil}
use Rattle.milter_wire.specs.declared.stage.Stage.{Stage}
use Rattle.milter_protocol.specs.OrderStates.{OrderState}
use Rattle.milter_protocol.specs.Steps.{Step, joined, silent, steps}
use Rattle.milter_protocol.specs.GivenAnswers.{IsInTurn, given_steps, given_to, without_reports}
use Rattle.milter_protocol.specs.Questions.{AskState, Event, Answered, Came, ProgressReported, Wanted, answer_step, answers_in, ask_step, commands_in, event_step, events_after, unquestioned}
use Rattle.milter_protocol.proofs.StepSequences.{joined-assoc}

joined-silent : {S : Type 0} (step : Step S) → joined step (silent step.after) ≡ step
joined-silent {S} step = let same = append-nil step.replies in λ i. record { after = step.after; replies = same i }

free-is : (t : AskState) → t.asked ≡ None → t ≡ unquestioned t.order_state
free-is t free = λ i. record { order_state = t.order_state; asked = free i }

-- what these events come to is what their commands and answers come to, from where no question is open, and after a
-- command that has one
pub record Agrees (w : Wanted) (events : List Event) : Type 0 where
  pub free : (s : OrderState) → IsInTurn w (unquestioned s) events
      → steps (event_step w) (unquestioned s) (without_reports events) ≡ given_steps w s (commands_in events) (answers_in events)
  pub asks : (x : Step AskState) (stage : Stage) → x.after.asked ≡ Some stage → IsInTurn w x.after events
      → joined x (steps (event_step w) x.after (without_reports events)) ≡ given_to x (Some stage) (answers_in events) (λ t left. given_steps w t (commands_in events) left)

after-command : (w : Wanted) (x : Step AskState) (more : List Event) → Agrees w more → (question : Option Stage) → x.after.asked ≡ question → IsInTurn w x.after more
    → joined x (steps (event_step w) x.after (without_reports more)) ≡ given_to x question (answers_in more) (λ t left. given_steps w t (commands_in more) left)
after-command w x more rest None is turn =
    let same = free-is x.after is in
    ap (λ (t : AskState). joined x (steps (event_step w) t (without_reports more))) same
    ∙ ap (joined x) (rest.free x.after.order_state (subst (λ (t : AskState). IsInTurn w t more) same turn))
after-command w x more rest (Some stage) is turn = rest.asks x stage is turn

pub agrees : (w : Wanted) (events : List Event) → Agrees w events
agrees w [] = record { free = λ s turn. refl; asks = λ x stage is turn. joined-silent x }
agrees w (Came received ∷ more) =
    let rest = agrees w more in
    record {
      free = λ s turn. let x = ask_step w (unquestioned s) received in after-command w x more rest x.after.asked refl turn.1;
      asks = λ x stage is turn. absurd (let no : Some stage ≡ None = sym is ∙ turn.0 in absurd cc);
    }
agrees w (Answered answer ∷ more) =
    let rest = agrees w more in
    record {
      free = λ s turn. absurd (let none = turn.0.1 in absurd cc);
      asks = λ x stage is turn.
          let y = answer_step x.after answer in
          sym (joined-assoc x y (steps (event_step w) y.after (without_reports more))) ∙ ap (joined (joined x y)) (rest.free y.after.order_state turn.1);
    }
agrees w (ProgressReported ∷ more) =
    let rest = agrees w more in
    record {
      free = λ s turn. absurd (let none = turn.0 in absurd cc);
      asks = λ x stage is turn. rest.asks x stage is turn.1;
    }

-- reports of progress change nothing that is kept
pub reports-keep : (w : Wanted) (s : AskState) (events : List Event) → events_after w s events ≡ events_after w s (without_reports events)
reports-keep w s [] = refl
reports-keep w s (Came received ∷ more) = reports-keep w (event_step w s (Came received)).after more
reports-keep w s (Answered answer ∷ more) = reports-keep w (event_step w s (Answered answer)).after more
reports-keep w s (ProgressReported ∷ more) = reports-keep w s more
