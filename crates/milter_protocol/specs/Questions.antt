-- A filter's end whose caller answers: its questions, and what it makes of the answers.
use Rattle.std.specs.Prelude.{◌≡◌, ◌&&◌, nat_lt, ℕ, Bool, false, List, [], ◌∷◌, ◌++◌, Option, None, Some, Ok, Err, if◌then◌else◌}
use Rattle.milter_wire.specs.declared.options.Options.{Options}
use Rattle.milter_wire.specs.declared.symbol_lists.SymList.{SymList}
use Rattle.milter_wire.specs.declared.negotiation.Negotiated.{Negotiated}
use Rattle.milter_wire.specs.declared.command.Command.{Command}
use Rattle.milter_wire.specs.declared.command.Command.TheVariants.{DataCmd}
use Rattle.milter_wire.specs.declared.reply.Reply.{Reply}
use Rattle.milter_wire.specs.declared.reply.Reply.TheVariants as replies_with
use Rattle.milter_wire.specs.declared.stage.Stage.{Stage}
use Rattle.milter_wire.specs.declared.stage.Stage.TheVariants as stages
use Rattle.milter_wire.specs.declared.verdict.Verdict.TheVariants.{Continue}
use Rattle.milter_wire.specs.Negotiation.{is_answered}
use Rattle.milter_wire.specs.Stages.{stage_of}
use Rattle.milter_protocol.specs.declared.answer.Answer.{Answer}
use Rattle.milter_protocol.specs.declared.stage_order.CommandOrder.{CommandOrder}
use Rattle.milter_protocol.specs.declared.stage_order.CommandOrder.TheVariants.{Lenient}
use Rattle.milter_protocol.specs.declared.filter_fault.FilterFault.{FilterFault}
use Rattle.milter_protocol.specs.declared.filter_fault.FilterState.{FilterState}
use Rattle.milter_protocol.specs.declared.filter_fault.FilterState.TheVariants.{Serving}
use Rattle.milter_protocol.specs.Aborts.{is_in_message}
use Rattle.milter_protocol.specs.Behavior.{Behavior}
use Rattle.milter_protocol.specs.FilterEnds.{Received}
use Rattle.milter_protocol.specs.OrderStates.{OrderState, after_message, fresh_in, order_state_before, order_state_fault, order_step_by, with_shown}
use Rattle.milter_protocol.specs.Permitted.{permitted}
use Rattle.milter_protocol.specs.Replies.{replies_of_answer}
use Rattle.milter_protocol.specs.StageOrder.{rank_of}
use Rattle.milter_protocol.specs.Steps.{Step, silent, steps}
use Rattle.milter_protocol.specs.Verdicts.{has_verdict, is_refusal}
use Rattle.milter_protocol.specs.Commands.{is_end_at}

-- what a filter wants of a connection
pub record Wanted : Type 0 where
  pub options : Options
  pub lists : List SymList

abbrev pub wanted_of : Behavior → Wanted
wanted_of b = record { options = b.wants; lists = b.lists }

-- the filter that wants this and is never asked
abbrev pub unasked : Wanted → Behavior
unasked w =
    record {
      wants = w.options;
      lists = w.lists;
      decide = λ stage seen. record { edits = []; verdict = Continue };
    }

-- what is kept of the connection, and the stage of the question that is open, if one is
pub record AskState : Type 0 where
  pub order_state : OrderState
  pub asked : Option Stage

-- no question is open
abbrev pub unquestioned : OrderState → AskState
unquestioned s = record { order_state = s; asked = None }

abbrev pub fresh_ask_state : CommandOrder → AskState
fresh_ask_state order = unquestioned (fresh_in order)

-- it takes commands: it serves, and no question is open
pub record IsTaking (s : AskState) : Type 0 where
  pub serving : s.order_state.state ≡ Serving
  pub unasked : s.asked ≡ None

-- ---- a command

-- the stage at which the filter is to be asked, if it is, where a command of this stage has come
abbrev pub question_at : Option Negotiated → Option Stage → Option Stage
question_at None stage = None
question_at (Some negotiated) None = None
question_at (Some negotiated) (Some stage) = if is_answered negotiated stage then Some stage else None

-- what comes of a command without a question
abbrev pub without_question : Step OrderState → Step AskState
without_question step = record { after = unquestioned step.after; replies = step.replies }

-- In the lenient order DATA within a message isn't counted before it is answered, since it is undone where it is
-- refused. It shows nothing.
abbrev pub counts_late : CommandOrder → ℕ → Stage → Bool
counts_late Lenient last stages.DataCmd = is_in_message last && nat_lt last (rank_of stages.DataCmd)
counts_late order last stage = false

-- what is kept while the question about this command is open
abbrev pub asked_about : OrderState → Command → Stage → OrderState
asked_about s command stage = if counts_late s.order s.last_rank stage then s else with_shown s command

-- a command at no fault: it is shown and its question is open, or it has none
abbrev pub asked_step : Wanted → OrderState → Command → Option Stage → Step AskState
asked_step w s command None = without_question (order_step_by (unasked w) s (Ok command) None)
asked_step w s command (Some stage) = silent (record { order_state = asked_about s command stage; asked = Some stage })

abbrev pub ask_step_by : Wanted → OrderState → Received → Option FilterFault → Step AskState
ask_step_by w s received (Some fault) = without_question (order_step_by (unasked w) s received (Some fault))
ask_step_by w s (Err fault) None = without_question (order_step_by (unasked w) s (Err fault) None)
ask_step_by w s (Ok command) None = asked_step w s command (question_at s.negotiated (stage_of command))

abbrev pub ask_step_in : Wanted → OrderState → Received → FilterState → Step AskState
ask_step_in w s received Serving = ask_step_by w s received (order_state_fault s received)
ask_step_in w s received ended = silent (unquestioned s)

-- while a question is open no command is taken
abbrev pub ask_step_from : Wanted → OrderState → Received → Option Stage → Step AskState
ask_step_from w s received None =
    let ready = order_state_before (unasked w) s received in ask_step_in w ready received ready.state
ask_step_from w s received (Some stage) = silent (record { order_state = s; asked = Some stage })

abbrev pub ask_step : Wanted → AskState → Received → Step AskState
ask_step w s received = ask_step_from w s.order_state received s.asked

abbrev pub ask_after : Wanted → AskState → List Received → AskState
ask_after w s received = (steps (ask_step w) s received).after

abbrev pub ask_replies : Wanted → AskState → List Received → List Reply
ask_replies w s received = (steps (ask_step w) s received).replies

-- ---- an answer

-- the answer as it is sent: without edits that were not negotiated
abbrev pub sent_answer : Option Negotiated → Answer → Option Answer
sent_answer None answer = None
sent_answer (Some negotiated) answer = Some (permitted negotiated answer)

-- the message ends with the answer at this stage, or goes on
abbrev pub shown_after_answer : OrderState → Option Answer → Option Stage → OrderState
shown_after_answer s answer stage = if is_end_at stage answer then after_message s else s

-- with DATA that wasn't counted before this answer to it
abbrev pub counted_with : OrderState → Option Answer → OrderState
counted_with s answer =
    if has_verdict is_refusal answer then s
    else shown_after_answer (with_shown s DataCmd) answer (Some stages.DataCmd)

-- what is kept after the answer to the question about a stage
abbrev pub answered_at : OrderState → Option Answer → Stage → OrderState
answered_at s answer stage =
    if counts_late s.order s.last_rank stage then counted_with s answer
    else shown_after_answer s answer (Some stage)

abbrev pub answered_to : OrderState → Option Answer → Option Stage → OrderState
answered_to s answer None = s
answered_to s answer (Some stage) = answered_at s answer stage

-- the answer to the question that is open: its replies, and the message ends with it or goes on
abbrev pub answer_step : AskState → Answer → Step AskState
answer_step s answer =
    let sent = sent_answer s.order_state.negotiated answer in
    record {
      after = unquestioned (answered_to s.order_state sent s.asked);
      replies = replies_of_answer sent;
    }

-- ---- all that happens: commands that come, answers that are given, and reports of progress

pub data Event : Type 0 where
  Came : (received : Received) → Event
  Answered : (answer : Answer) → Event
  ProgressReported : Event

abbrev pub event_step : Wanted → AskState → Event → Step AskState
event_step w s (Came received) = ask_step w s received
event_step w s (Answered answer) = answer_step s answer
event_step w s ProgressReported = record { after = s; replies = replies_with.Progress ∷ [] }

abbrev pub events_after : Wanted → AskState → List Event → AskState
events_after w s events = (steps (event_step w) s events).after

-- the replies, place by place
abbrev pub events_replies : Wanted → AskState → List Event → List Reply
events_replies w s events = (steps (event_step w) s events).replies

-- the commands among them
abbrev pub commands_in : List Event → List Received
commands_in [] = []
commands_in (Came received ∷ more) = received ∷ commands_in more
commands_in (Answered answer ∷ more) = commands_in more
commands_in (ProgressReported ∷ more) = commands_in more

-- the answers among them
abbrev pub answers_in : List Event → List Answer
answers_in [] = []
answers_in (Came received ∷ more) = answers_in more
answers_in (Answered answer ∷ more) = answer ∷ answers_in more
answers_in (ProgressReported ∷ more) = answers_in more

-- ---- with the answers of a policy

-- its answer to the question that is open, if one is
abbrev pub answers_of : Behavior → AskState → Option Stage → List Event
answers_of b s None = []
answers_of b s (Some stage) = Answered (b.decide stage s.order_state.shown.seen) ∷ []

-- the commands, each with the policy's answer where it asks for one
abbrev pub events_with : Behavior → OrderState → List Received → List Event
events_with b s [] = []
events_with b s (received ∷ more) =
    let asked = (ask_step (wanted_of b) (unquestioned s) received).after in
    let these = Came received ∷ answers_of b asked asked.asked in
    these ++ events_with b (events_after (wanted_of b) (unquestioned s) these).order_state more
