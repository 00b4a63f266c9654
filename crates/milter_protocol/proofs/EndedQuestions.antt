-- While an end takes no commands nothing changes.
use Rattle.std.proofs.Common.{◌≡◌, ◌≢◌, Bool, true, false, List, [], ◌∷◌, Option, None, Some, Ok, refl, ◌∙◌, ap, if◌then◌else◌}
use Rattle.milter_wire.specs.declared.command.Command.TheVariants.{Abort}
use Rattle.milter_wire.specs.declared.stage.Stage.{Stage}
use Rattle.milter_protocol.specs.declared.filter_fault.FilterState.{FilterState}
use Rattle.milter_protocol.specs.declared.filter_fault.FilterState.TheVariants.{Failed, Quit, Serving}
use Rattle.milter_protocol.specs.Aborts.{needs_abort}
use Rattle.milter_protocol.specs.FilterEnds.{Received}
use Rattle.milter_protocol.specs.OrderStates.{OrderState, order_state_before, order_step_in}
use Rattle.milter_protocol.specs.Questions.{AskState, IsTaking, Wanted, ask_after, ask_replies, ask_step, ask_step_from, ask_step_in, unasked, unquestioned}
use Rattle.milter_protocol.specs.Steps.{Step, joined, silent, steps}

ended-in : (w : Wanted) (s : OrderState) (received : Received) (state : FilterState) → state ≢ Serving → ask_step_in w s received state ≡ silent (unquestioned s)
ended-in w s received Serving ended = absurd (ended refl)
ended-in w s received Quit ended = refl
ended-in w s received (Failed fault) ended = refl

before-in : (w : Wanted) (s : OrderState) (state : FilterState) → state ≢ Serving → (order_step_in (unasked w) s (Ok Abort) state).after ≡ s
before-in w s Serving ended = absurd (ended refl)
before-in w s Quit ended = refl
before-in w s (Failed fault) ended = refl

before-ended : (w : Wanted) (s : OrderState) (first : Received) → s.state ≢ Serving → order_state_before (unasked w) s first ≡ s
before-ended w s first ended = by_need (needs_abort s.order s.negotiated s.last_rank first)
  where
    by_need : (need : Bool) → (if need then (order_step_in (unasked w) s (Ok Abort) s.state).after else s) ≡ s
    by_need true = before-in w s s.state ended
    by_need false = refl

ended-from : (w : Wanted) (s : OrderState) (first : Received) (asked : Option Stage) → (s.state ≡ Serving → asked ≡ None → ⊥)
    → ask_step_from w s first asked ≡ silent (record { order_state = s; asked = asked })
ended-from w s first (Some stage) stuck = refl
ended-from w s first None stuck =
    let ended : s.state ≢ Serving = λ serving. stuck serving refl in
    ap (λ (ready : OrderState). ask_step_in w ready first ready.state) (before-ended w s first ended) ∙ ended-in w s first s.state ended

-- no command is taken
abbrev pub IsStuck : AskState → Type 0
IsStuck s = IsTaking s → ⊥

ended-step : (w : Wanted) (s : AskState) (first : Received) → IsStuck s → ask_step w s first ≡ silent s
ended-step w s first stuck = ended-from w s.order_state first s.asked (λ serving unasked. stuck (record { serving = serving; unasked = unasked }))

ended-steps : (w : Wanted) (s : AskState) (received : List Received) → IsStuck s → steps (ask_step w) s received ≡ silent s
ended-steps w s [] stuck = refl
ended-steps w s (first ∷ more) stuck =
    ap (λ (x : Step AskState). joined x (steps (ask_step w) x.after more)) (ended-step w s first stuck) ∙ ended-steps w s more stuck

pub ended-stays : (w : Wanted) (s : AskState) (received : List Received) → IsStuck s → (ask_after w s received ≡ s) × (ask_replies w s received ≡ [])
ended-stays w s received stuck =
    let same = ended-steps w s received stuck in
    (ap (λ (x : Step AskState). x.after) same, ap (λ (x : Step AskState). x.replies) same)
