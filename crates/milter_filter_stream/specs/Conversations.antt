-- A filter's end whose caller answers, as its callers see it.
use Rattle.std.specs.Prelude.{◌≡◌, ◌≢◌, ◌≤◌, ◌<◌, ℕ, List, [], ◌∷◌, ◌++◌, length, take, Option, None, Some}
use Rattle.std.specs.List.{flat_map}
use Rattle.milter_fields.specs.declared.fault.WireFault.{WireFault}
use Rattle.milter_fields.specs.declared.fault.WireFault.TheVariants.{ZeroLength, TooLong}
use Rattle.milter_fields.specs.Number.{number}
use Rattle.milter_fields.specs.Stream.{IsUnfinished, divide}
use Rattle.milter_wire.specs.Reply.{encoding}
use Rattle.milter_wire.specs.declared.stage.Stage.{Stage}
use Rattle.milter_protocol.specs.declared.answer.Answer.{Answer}
use Rattle.milter_protocol.specs.declared.stage_order.CommandOrder.{CommandOrder}
use Rattle.milter_protocol.specs.declared.filter_fault.FilterFault.{FilterFault}
use Rattle.milter_protocol.specs.declared.filter_fault.FilterFault.TheVariants.{Wire}
use Rattle.milter_protocol.specs.declared.filter_fault.FilterState.{FilterState}
use Rattle.milter_protocol.specs.declared.filter_fault.FilterState.TheVariants.{Failed, Quit, Serving}
use Rattle.milter_protocol.specs.FilterEnds.{Received}
use Rattle.milter_protocol.specs.OrderStates.{nothing_kept}
use Rattle.milter_protocol.specs.Steps.{Step}
use Rattle.milter_protocol.specs.GivenAnswers.{IsInTurn}
use Rattle.milter_filter_stream.specs.declared.filter_stream.NextStep.{NextStep}
use Rattle.milter_filter_stream.specs.declared.filter_stream.NextStep.TheVariants as steps
use Rattle.milter_protocol.specs.Questions.{AskState, Event, Wanted, answer_step, ask_after, ask_replies, commands_in, events_after, events_replies, fresh_ask_state, unquestioned}
use Rattle.milter_filter_stream.specs.Streams.{read_in, received_in}

-- what is kept and which question is open, the bytes that were taken and not handed out, and those that are pending
pub record StreamState : Type 0 where
  pub state : AskState
  pub unread : List ℕ
  pub pending : List ℕ

abbrev pub fresh_stream : CommandOrder → StreamState
fresh_stream order = record { state = fresh_ask_state order; unread = []; pending = [] }

-- the four bytes of a length that no packet has, where that is the fault
abbrev pub length_field : WireFault → List ℕ
length_field ZeroLength = number 0
length_field (TooLong stated) = number stated
length_field other = []

-- What stays unread after a fault: of a length at fault its four bytes. After any other fault nothing does, since the
-- packet at fault was handed out.
abbrev pub unread_after : FilterFault → List ℕ
unread_after (Wire fault) = length_field fault
unread_after other = []

-- given up for a fault
abbrev pub failed_stream : FilterFault → StreamState
failed_stream fault =
    record { state = unquestioned (nothing_kept (Failed fault)); unread = unread_after fault; pending = [] }

-- after a step: its replies are pending behind the others
abbrev pub stream_by : StreamState → Step AskState → StreamState
stream_by s step =
    record { state = step.after; unread = s.unread; pending = s.pending ++ flat_map encoding step.replies }

-- what the filter wants, and the same
pub record Conversation : Type 0 where
  pub wanted : Wanted
  pub state : AskState
  pub unread : List ℕ
  pub pending : List ℕ

abbrev pub conversation_of : Wanted → StreamState → Conversation
conversation_of wanted s = record { wanted = wanted; state = s.state; unread = s.unread; pending = s.pending }

abbrev pub fresh_conversation : CommandOrder → Wanted → Conversation
fresh_conversation order wanted = conversation_of wanted (fresh_stream order)

-- given up for a fault
abbrev pub given_up_in : Conversation → FilterFault → Conversation
given_up_in c fault = conversation_of c.wanted (failed_stream fault)

-- after a step: its replies are pending behind the others
abbrev pub conversation_by : Conversation → Step AskState → Conversation
conversation_by c step =
    record {
      wanted = c.wanted;
      state = step.after;
      unread = c.unread;
      pending = c.pending ++ flat_map encoding step.replies;
    }

-- after the answer to the question that is open
abbrev pub answered : Conversation → Answer → Conversation
answered c answer = conversation_by c (answer_step c.state answer)

-- what its caller does next
abbrev pub next_step : List ℕ → Option Stage → FilterState → NextStep
next_step (byte ∷ pending) asked state = steps.Send
next_step [] (Some stage) state = steps.Answer stage
next_step [] None Serving = steps.Feed
next_step [] None ended = steps.Done

-- the last packet of these bytes is the first that has replies or a question, and nothing follows it
pub record EndsThere (w : Wanted) (s : AskState) (bytes : List ℕ) : Type 0 where
  pub before : List Received
  pub last : Received
  pub commands : read_in bytes ≡ before ++ last ∷ []
  pub silent : ask_replies w s before ≡ []
  pub unasked : (ask_after w s before).asked ≡ None
  pub nothing_left : (divide bytes).rest ≡ []

-- the fault is found in these packets, and none of them has replies or a question
pub record GivesUpIn (w : Wanted) (s : AskState) (received : List Received) (fault : FilterFault) : Type 0 where
  pub failed : ask_after w s received ≡ unquestioned (nothing_kept (Failed fault))
  pub silent : ask_replies w s received ≡ []

-- What an end that takes commands and has nothing to send makes of the first bytes of a piece: it goes on by the
-- commands of the packets that are whole with these, the replies to them are pending, and the rest stays unread. It
-- takes the bytes up to the end of the first packet that has replies or a question, or all where none has. After the
-- mail server has quit nothing stays unread. No fault is in what it took.
pub record TakesIn (old : Conversation) (piece : List ℕ) (n : ℕ) (new : Conversation) : Type 0 where
  pub wanted : new.wanted ≡ old.wanted
  pub within : n ≤ length piece
  pub progress : piece ≢ [] → 0 < n
  pub state : new.state ≡ ask_after old.wanted old.state (read_in (old.unread ++ take n piece))
  pub pending :
      new.pending ≡ flat_map encoding (ask_replies old.wanted old.state (read_in (old.unread ++ take n piece)))
  pub going : (fault : FilterFault) → new.state.order_state.state ≢ Failed fault
  pub unread : new.state.order_state.state ≡ Serving → new.unread ≡ (divide (old.unread ++ take n piece)).rest
  pub unfinished : IsUnfinished new.unread
  pub nothing_unread : new.state.order_state.state ≢ Serving → new.unread ≡ []
  pub quit : new.state.order_state.state ≢ Serving → n ≡ length piece
  pub silent : new.state.order_state.state ≢ Serving → new.pending ≡ []
  pub first : new.pending ≢ [] → EndsThere old.wanted old.state (old.unread ++ take n piece)
  pub asks : new.state.asked ≢ None → EndsThere old.wanted old.state (old.unread ++ take n piece)
  pub asks_alone : new.state.asked ≢ None → (new.state.order_state.state ≡ Serving) × (new.pending ≡ [])
  pub all : new.pending ≡ [] → new.state.asked ≡ None → n ≡ length piece

-- An end goes on to another: these events happened in turn, whose commands are those of the bytes that came in whatever
-- pieces, and these bytes of replies were sent. It is what the events make of it, and what was sent comes before what
-- is pending.
pub record GoesOnIn (old : Conversation) (events : List Event) (input sent : List ℕ) (new : Conversation) : Type 0 where
  pub wanted : new.wanted ≡ old.wanted
  pub commands : commands_in events ≡ received_in (old.unread ++ input)
  pub in_turn : IsInTurn old.wanted old.state events
  pub state : new.state ≡ events_after old.wanted old.state events
  pub replied :
      sent ++ new.pending ≡ old.pending ++ flat_map encoding (events_replies old.wanted old.state events)
  pub unread : new.state.order_state.state ≡ Serving → new.unread ≡ (divide (old.unread ++ input)).rest
  pub unfinished : new.state.order_state.state ≡ Serving → IsUnfinished new.unread
  pub nothing_unread : new.state.order_state.state ≡ Quit → new.unread ≡ []
  pub at_fault : (fault : FilterFault) → new.state.order_state.state ≡ Failed fault → new.unread ≡ unread_after fault
