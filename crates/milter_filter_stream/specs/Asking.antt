-- What a filter's end asks and replies, by what the filter wants and by what is kept of a connection.
use Rattle.std.specs.Prelude.{◌≡◌, ◌≢◌, ◌≤◌, ◌<◌, ◌+◌, ℕ, true, List, [], ◌++◌, length, take, Option, None, Some, Result, Ok, Err, if◌then◌else◌}
use Rattle.std.specs.List.{flat_map}
use Rattle.milter_fields.specs.declared.number.TheConstants.{HEAD_LEN}
use Rattle.milter_fields.specs.Number.{IsBytes}
use Rattle.milter_fields.specs.Stream.{IsUnfinished, divide}
use Rattle.milter_wire.specs.declared.command.Command.{Command}
use Rattle.milter_wire.specs.declared.command.Command.TheVariants.{DataCmd}
use Rattle.milter_wire.specs.declared.stage.Stage.{Stage}
use Rattle.milter_wire.specs.declared.stage.Stage.TheVariants as stages
use Rattle.milter_wire.specs.declared.verdict.Verdict.{Verdict}
use Rattle.milter_wire.specs.Stages.{stage_of}
use Rattle.milter_wire.specs.declared.reply.Reply.{Reply}
use Rattle.milter_wire.specs.Reply.{encoding}
use Rattle.milter_message.specs.declared.message.TheConstants.{WEIGHT_MAX}
use Rattle.milter_protocol.specs.declared.stage_order.CommandOrder.{CommandOrder}
use Rattle.milter_protocol.specs.declared.filter_fault.FilterFault.{FilterFault}
use Rattle.milter_protocol.specs.declared.filter_fault.FilterFault.TheVariants.{NoMemory}
use Rattle.milter_protocol.specs.declared.filter_fault.FilterState.TheVariants.{Failed, Serving}
use Rattle.milter_protocol.specs.FilterEnds.{Received}
use Rattle.milter_protocol.specs.OrderStates.{OrderState, after_message, nothing_kept, with_shown}
use Rattle.milter_protocol.specs.Steps.{Step, steps}
use Rattle.milter_protocol.specs.Commands.{is_end_by}
use Rattle.milter_protocol.specs.Verdicts.{is_final_at, is_refusal}
use Rattle.milter_filter_stream.specs.declared.connection.AnswerEffect.{AnswerEffect}
use Rattle.milter_filter_stream.specs.declared.connection.AnswerEffect.TheVariants.{Nothing, EndsMessage, CountsData}
use Rattle.milter_filter_stream.specs.Conversations.{EndsThere, GivesUpIn}
use Rattle.milter_filter_stream.specs.Conversations.{unread_after}
use Rattle.milter_protocol.specs.Questions.{AskState, Wanted, IsTaking, ask_step, ask_step_by, asked_about, counts_late, fresh_ask_state, question_at, unquestioned}
use Rattle.milter_filter_stream.specs.Streams.{IsOnePacketAtMost, read_in, received_in}

-- what is kept and which question is open, and the bytes of the replies
pub record Asking : Type 0 where
  pub state : AskState
  pub pending : List ℕ

-- While the question about this stage is open, the connection serves, options were negotiated, and there is room for
-- DATA that isn't counted yet.
pub record IsAsked (s : OrderState) (stage : Stage) : Type 0 where
  pub serving : s.state ≡ Serving
  pub negotiated : s.negotiated ≢ None
  pub room : counts_late s.order s.last_rank stage ≡ true → HEAD_LEN + s.shown.bytes ≤ WEIGHT_MAX

-- where nothing has come, and commands are taken in this order
abbrev pub fresh_asking : CommandOrder → Asking
fresh_asking order = record { state = fresh_ask_state order; pending = [] }

-- where the connection was given up for a fault
abbrev pub failed_asking : FilterFault → Asking
failed_asking fault = record { state = unquestioned (nothing_kept (Failed fault)); pending = [] }

-- with these replies more, and what is kept then
abbrev pub asking_with : Asking → OrderState → List Reply → Asking
asking_with old order_state replies =
    record {
      state = record old.state { order_state = order_state };
      pending = old.pending ++ flat_map encoding replies;
    }

-- after a step
abbrev pub asking_step : Asking → Step AskState → Asking
asking_step old step = record { state = step.after; pending = old.pending ++ flat_map encoding step.replies }

-- after a command that is at no fault
abbrev pub asking_by : Wanted → Asking → Command → Asking
asking_by w old command = asking_step old (ask_step_by w old.state.order_state (Ok command) None)

-- after a packet
abbrev pub asking_next : Wanted → Asking → Received → Asking
asking_next w old received = asking_step old (ask_step w old.state received)

-- after packets
abbrev pub asking_after : Wanted → Asking → List Received → Asking
asking_after w old received = asking_step old (steps (ask_step w) old.state received)

-- what is kept of a command that is shown, by the stage at which the filter is asked about it
abbrev pub shown_state : OrderState → Command → Option Stage → OrderState
shown_state s command None = with_shown s command
shown_state s command (Some stage) = asked_about s command stage

-- with a command that is shown, and the question about it
abbrev pub shown_and_asked : Asking → Command → Asking
shown_and_asked old command =
    let asked = question_at old.state.order_state.negotiated (stage_of command) in
    record {
      state = record { order_state = shown_state old.state.order_state command asked; asked = asked };
      pending = old.pending;
    }

-- ---- answers

-- of a verdict about DATA that isn't counted yet: refused it stays so, and else it counts unless the message ends
abbrev pub late_effect : Verdict → AnswerEffect
late_effect verdict =
    if is_refusal verdict then Nothing
    else if is_final_at stages.DataCmd verdict then EndsMessage
    else CountsData

abbrev pub effect_at : OrderState → Stage → Verdict → AnswerEffect
effect_at s stage verdict =
    if counts_late s.order s.last_rank stage then late_effect verdict
    else if is_end_by stage verdict then EndsMessage
    else Nothing

abbrev pub with_effect : OrderState → AnswerEffect → OrderState
with_effect s Nothing = s
with_effect s EndsMessage = after_message s
with_effect s CountsData = with_shown s DataCmd

-- ---- packets

-- it wasn't given up
abbrev pub GoesOn : OrderState → Type 0
GoesOn s = (fault : FilterFault) → s.state ≢ Failed fault

-- The fault of a packet: nothing is replied to it, and it is no fault of a length. Nothing is known of a refusal of
-- memory.
pub record FailsAt (w : Wanted) (s : AskState) (received : Received) (fault : FilterFault) : Type 0 where
  pub failed : fault ≢ NoMemory → (ask_step w s received).after ≡ unquestioned (nothing_kept (Failed fault))
  pub silent : fault ≢ NoMemory → (ask_step w s received).replies ≡ []
  pub no_length : unread_after fault ≡ []

-- The fault in a piece that follows unread bytes, and what stays unread.
pub record FailsIn (w : Wanted) (s : AskState) (unread piece : List ℕ) (fault : FilterFault) (left : List ℕ)
    : Type 0 where
  pub left_is : left ≡ unread_after fault
  pub cause : fault ≢ NoMemory → GivesUpIn w s (received_in (unread ++ piece)) fault

-- the bytes of a packet that isn't whole
abbrev pub IsUnread : List ℕ → Type 0
IsUnread bytes = IsUnfinished bytes × IsBytes bytes

-- packets are taken, and these bytes came before that are of one that isn't whole
pub record IsReady (a : Asking) (bytes : List ℕ) : Type 0 where
  pub taking : IsTaking a.state
  pub unread : IsUnread bytes

-- What the first bytes of a piece come to, which follow unread bytes: the replies to the packets that are whole with
-- these, and the bytes that stay unread.
pub record TakesBytes (w : Wanted) (old : Asking) (unread piece : List ℕ) (n : ℕ) (new : Asking) (left : List ℕ)
    : Type 0 where
  pub within : n ≤ length piece
  pub progress : piece ≢ [] → 0 < n
  pub replied : new ≡ asking_after w old (read_in (unread ++ take n piece))
  pub left_is : left ≡ (divide (unread ++ take n piece)).rest
  pub is_unread : IsUnread left
  pub going : GoesOn new.state.order_state

-- what the first bytes of a piece come to, which end at the latest where a packet does, or the fault in them
abbrev pub TakesPacket : Wanted → Asking → List ℕ → List ℕ → Result ℕ FilterFault → Asking → List ℕ → Type 0
TakesPacket w old unread piece (Ok n) new left =
    TakesBytes w old unread piece n new left × IsOnePacketAtMost (unread ++ take n piece)
TakesPacket w old unread piece (Err fault) new left = FailsIn w old.state unread piece fault left

-- It comes to an end at the first packet that has replies or a question, or where the mail server quits, or else at
-- that of the piece.
pub record StopsAt (w : Wanted) (old : Asking) (unread piece : List ℕ) (n : ℕ) (new : Asking) : Type 0 where
  pub first : new.pending ≢ [] → EndsThere w old.state (unread ++ take n piece)
  pub asks : new.state.asked ≢ None → EndsThere w old.state (unread ++ take n piece)
  pub asks_alone : new.state.asked ≢ None → (new.state.order_state.state ≡ Serving) × (new.pending ≡ [])
  pub all : new.pending ≡ [] → IsTaking new.state → n ≡ length piece
  pub silent_end : new.state.order_state.state ≢ Serving → new.pending ≡ []
