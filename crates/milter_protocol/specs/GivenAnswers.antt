-- What an end whose caller answers makes of commands and answers: each question takes the next answer.
use Rattle.std.specs.Prelude.{◌≡◌, List, [], ◌∷◌, Option, None, Some}
use Rattle.milter_wire.specs.declared.stage.Stage.{Stage}
use Rattle.milter_wire.specs.declared.stage.Stage.TheVariants.{Eob}
use Rattle.milter_protocol.specs.declared.answer.Answer.{Answer}
use Rattle.milter_protocol.specs.FilterEnds.{Received}
use Rattle.milter_protocol.specs.OrderStates.{OrderState}
use Rattle.milter_protocol.specs.Steps.{Step, joined}
use Rattle.milter_protocol.specs.Questions.{AskState, Event, Answered, Came, ProgressReported, Wanted, answer_step, ask_step, event_step, unquestioned}

-- The question, where one is open, takes the first of these answers, and then the others go on; where there is none it
-- stays open.
abbrev pub given_to
    : Step AskState → Option Stage → List Answer → (OrderState → List Answer → Step AskState) → Step AskState
given_to step None answers others = joined step (others step.after.order_state answers)
given_to step (Some stage) [] others = step
given_to step (Some stage) (answer ∷ more) others =
    let answered = joined step (answer_step step.after answer) in
    joined answered (others answered.after.order_state more)

-- all commands, from where no question is open
abbrev pub given_steps : Wanted → OrderState → List Received → List Answer → Step AskState
given_steps w s [] answers = record { after = unquestioned s; replies = [] }
given_steps w s (received ∷ more) answers =
    let step = ask_step w (unquestioned s) received in
    given_to step step.after.asked answers (λ t left. given_steps w t more left)

-- Each command comes while no question is open, each answer while one is, and each report of progress while the end of
-- a message is asked about.
abbrev pub IsInTurn : Wanted → AskState → List Event → Type 0
IsInTurn w s [] = Unit {0}
IsInTurn w s (Came received ∷ more) = (s.asked ≡ None) × IsInTurn w (event_step w s (Came received)).after more
IsInTurn w s (Answered answer ∷ more) =
    ((stage : Stage) × (s.asked ≡ Some stage)) × IsInTurn w (event_step w s (Answered answer)).after more
IsInTurn w s (ProgressReported ∷ more) = (s.asked ≡ Some Eob) × IsInTurn w s more

abbrev pub without_reports : List Event → List Event
without_reports [] = []
without_reports (Came received ∷ more) = Came received ∷ without_reports more
without_reports (Answered answer ∷ more) = Answered answer ∷ without_reports more
without_reports (ProgressReported ∷ more) = without_reports more
