-- A connection that takes turns: what is read, taken, replied and written in them, and how it ends.
use Rattle.std.specs.Prelude.{◌≡◌, ◌≢◌, ◌⊎◌, ℕ, List, [], ◌++◌, length, map, Option, None, Some}
use Rattle.std.specs.List.{flat_map}
use Rattle.std.specs.Io.KnownBytes.{Appends, Consumes, IsAtEnd}
use Rattle.milter_fields.specs.Stream.{IsUnfinished, divide}
use Rattle.milter_wire.specs.Reply.{encoding}
use Rattle.milter_wire.specs.declared.stage.Stage.{Stage}
use Rattle.milter_protocol.specs.declared.answer.Answer.{Answer}
use Rattle.milter_protocol.specs.declared.stage_order.CommandOrder.{CommandOrder}
use Rattle.milter_protocol.specs.declared.filter_fault.FilterFault.{FilterFault}
use Rattle.milter_protocol.specs.declared.filter_fault.FilterFault.TheVariants.{NoMemory}
use Rattle.milter_protocol.specs.declared.filter_fault.FilterState.{FilterState}
use Rattle.milter_protocol.specs.declared.filter_fault.FilterState.TheVariants as states
use Rattle.milter_protocol.specs.FilterEnds.{Received}
use Rattle.milter_protocol.specs.GivenAnswers.{IsInTurn}
use Rattle.milter_protocol.specs.Questions.{Came, Event, IsTaking, ProgressReported, Wanted, commands_in, event_step, events_after, events_replies, fresh_ask_state}
use Rattle.milter_filter_stream.specs.Conversations.{Conversation, GoesOnIn, answered, conversation_by, fresh_conversation}
use Rattle.milter_filter_stream.specs.Streams.{received_in}
use Rattle.milter_filter.specs.declared.turn.Served.{Served}
use Rattle.milter_filter.specs.declared.turn.Served.TheVariants.{Quit, Ended, Failed, ReadFault, WriteFault}
use Rattle.milter_filter.specs.declared.turn.Served.TheVariants.{TurnLimit}
use Rattle.milter_filter.specs.declared.turn.Turn.{Turn}
use Rattle.milter_filter.specs.declared.turn.Turn.TheVariants as turns

-- its conversation, the bytes that were read and not taken, and how it ended
pub record Connected : Type 0 where
  pub conversation : Conversation
  pub waiting : List ℕ
  pub ended : Option Served

-- one that has not ended
abbrev pub connected : Conversation → List ℕ → Connected
connected conversation waiting = record { conversation = conversation; waiting = waiting; ended = None }

abbrev pub fresh_connected : CommandOrder → Wanted → Connected
fresh_connected order wanted = connected (fresh_conversation order wanted) []

-- the stage of the question that is open: none after the end
abbrev pub question_by : Option Served → Option Stage → Option Stage
question_by None asked = asked
question_by (Some end) asked = None

abbrev pub question_in : Connected → Option Stage
question_in c = question_by c.ended c.conversation.state.asked

-- after the answer to the question that is open
abbrev pub connected_answered : Connected → Answer → Connected
connected_answered c answer = record c { conversation = answered c.conversation answer }

-- after a report of progress
abbrev pub connected_reporting : Connected → Connected
connected_reporting c =
    let x = c.conversation in
    record c { conversation = conversation_by x (event_step x.wanted x.state ProgressReported) }

-- it serves, and the bytes that it took and didn't hand out are of a packet that isn't whole
pub record IsServing (c : Conversation) : Type 0 where
  pub serving : c.state.order_state.state ≡ states.Serving
  pub unfinished : IsUnfinished c.unread

-- it has not ended, and serves
pub record IsOpen (c : Connected) : Type 0 where
  pub not_ended : c.ended ≡ None
  pub serving : IsServing c.conversation

-- The conversation goes on by these events, whose commands are those of these bytes, and what was sent of its replies
-- was written.
pub record GoesIn (old : Conversation) (events : List Event) (input : List ℕ) (new : Conversation)
    (written all : Option (List ℕ)) : Type 0 where
  pub sent : List ℕ
  pub goes_on : GoesOnIn old events input sent new
  pub was_written : Appends written all sent

-- These bytes were read. The conversation took them, after those that waited and but for those that wait now, and it
-- goes on so by these events.
pub record GoesFrom (old : Connected) (events : List Event) (unread left written all : Option (List ℕ))
    (new : Connected) : Type 0 where
  pub input : List ℕ
  pub taken : List ℕ
  pub was_read : Consumes unread left input
  pub taken_is : taken ++ new.waiting ≡ old.waiting ++ input
  pub goes : GoesIn old.conversation events taken new.conversation written all

-- all that was read is taken, all replies are written, and no question is open
pub record IsDone (new : Connected) : Type 0 where
  pub nothing_pending : new.conversation.pending ≡ []
  pub nothing_waiting : new.waiting ≡ []
  pub no_question : new.conversation.state.asked ≡ None

-- it goes so, and all is done
pub record Completes (old : Connected) (events : List Event) (unread left written all : Option (List ℕ))
    (new : Connected) : Type 0 where
  pub goes : GoesFrom old events unread left written all new
  pub done : IsDone new

-- it goes so, all is done, and this became of it
pub record CompletesAs (state : FilterState) (old : Connected) (events : List Event)
    (unread left written all : Option (List ℕ)) : Type 0 where
  pub new : Connected
  pub completes : Completes old events unread left written all new
  pub state_is : new.conversation.state.order_state.state ≡ state

-- a connection ends so
abbrev pub EndsAs : Connected → List Event → Option (List ℕ) → Option (List ℕ) → Option (List ℕ) → Option (List ℕ)
    → Served → Type 0
EndsAs old events unread left written all Quit = CompletesAs states.Quit old events unread left written all
-- the reader is at its end, and so many bytes of a packet that isn't whole were its last
EndsAs old events unread left written all (Ended count) =
    (x : CompletesAs states.Serving old events unread left written all)
    × (length x.new.conversation.unread ≡ count) × IsAtEnd left
-- where memory was refused, what was read is taken in part
EndsAs old events unread left written all (Failed fault) =
    (fault ≢ NoMemory → CompletesAs (states.Failed fault) old events unread left written all)
    × (fault ≡ NoMemory → (new : Connected) × GoesFrom old events unread left written all new)
EndsAs old events unread left written all ReadFault = CompletesAs states.Serving old events unread left written all
EndsAs old events unread left written all WriteFault =
    (new : Connected) × GoesFrom old events unread left written all new
EndsAs old events unread left written all TurnLimit = ⊥

-- the question about this stage is open, and all replies before it are written
pub record Asks (c : Conversation) (stage : Stage) : Type 0 where
  pub nothing_pending : c.pending ≡ []
  pub question : c.state.asked ≡ Some stage

-- what a turn does, in which these events happen
abbrev pub Turns : Connected → List Event → Option (List ℕ) → Option (List ℕ) → Option (List ℕ) → Option (List ℕ)
    → Connected → Turn → Type 0
Turns old events unread left written all new turns.Again =
    Completes old events unread left written all new × IsOpen new
Turns old events unread left written all new turns.AwaitsInput =
    Completes old events unread left written all new × IsOpen new
Turns old events unread left written all new turns.AwaitsOutput =
    GoesFrom old events unread left written all new × (new.conversation.pending ≢ []) × IsOpen new
Turns old events unread left written all new (turns.AwaitsAnswer stage) =
    GoesFrom old events unread left written all new × Asks new.conversation stage × IsOpen new
Turns old events unread left written all new (turns.Ended end) =
    EndsAs old events unread left written all end × (new.ended ≡ Some end)

-- commands come, and it goes on, ends, and a turn goes so by them
abbrev pub GoesBy : Connected → Option (List ℕ) → Option (List ℕ) → Option (List ℕ) → Option (List ℕ) → Connected
    → Type 0
GoesBy old unread left written all new =
    (received : List Received) × GoesFrom old (map Came received) unread left written all new

abbrev pub EndsBy : Connected → Option (List ℕ) → Option (List ℕ) → Option (List ℕ) → Option (List ℕ) → Served
    → Type 0
EndsBy old unread left written all end =
    (received : List Received) × EndsAs old (map Came received) unread left written all end

abbrev pub TurnsBy : Connected → Option (List ℕ) → Option (List ℕ) → Option (List ℕ) → Option (List ℕ) → Connected
    → Turn → Type 0
TurnsBy old unread left written all new turn =
    (received : List Received) × Turns old (map Came received) unread left written all new turn

-- Nothing is read, or only after commands by which all was done: what was read before is taken, all replies are
-- written, and no question is open.
abbrev pub ReadsWhereDone : Connected → Option (List ℕ) → Option (List ℕ) → Option (List ℕ) → Type 0
ReadsWhereDone old unread left written =
    (left ≡ unread)
    ⊎ ((between : Connected) × (all : Option (List ℕ)) × GoesBy old unread unread written all between × IsDone between)

-- ---- within a turn

-- where it stands after it took what it could: these bytes are left
pub record Stops (c : Conversation) (waiting : List ℕ) : Type 0 where
  pub whole : c.pending ≡ [] → c.state.asked ≡ None → waiting ≡ []
  pub going : (fault : FilterFault) → c.state.order_state.state ≢ states.Failed fault
  pub replies : c.pending ≢ [] → c.state.order_state.state ≡ states.Serving
  pub asks : c.state.asked ≢ None → c.state.order_state.state ≡ states.Serving

-- what comes next of a conversation that has not ended
abbrev pub StandsAt : Conversation → Turn → Type 0
StandsAt c turns.Again = (c.pending ≡ []) × IsTaking c.state
StandsAt c turns.AwaitsOutput = c.pending ≢ []
StandsAt c (turns.AwaitsAnswer stage) = Asks c stage
StandsAt c other = ⊥

-- it has ended, and all is written
pub record IsOver (c : Conversation) : Type 0 where
  pub nothing_pending : c.pending ≡ []
  pub no_question : c.state.asked ≡ None
  pub ended : c.state.order_state.state ≢ states.Serving

-- ---- from the beginning

-- The reader gave these bytes, of which the last wait. The events happened in turn, and their commands are those of the
-- bytes before. The writer took the first of the replies to the events, place by place, and the last are pending.
pub record RepliesTo (order : CommandOrder) (wanted : Wanted) (events : List Event)
    (unread left written all : Option (List ℕ)) (waiting pending : List ℕ) : Type 0 where
  pub input : List ℕ
  pub taken : List ℕ
  pub sent : List ℕ
  pub was_read : Consumes unread left input
  pub taken_is : taken ++ waiting ≡ input
  pub commands : commands_in events ≡ received_in taken
  pub in_turn : IsInTurn wanted (fresh_ask_state order) events
  pub was_written : Appends written all sent
  pub replied : sent ++ pending ≡ flat_map encoding (events_replies wanted (fresh_ask_state order) events)

-- all that was read is taken and replied to, no question is open, and this became of the connection
pub record RepliesToAll (state : FilterState) (order : CommandOrder) (wanted : Wanted) (events : List Event)
    (unread left written all : Option (List ℕ)) : Type 0 where
  pub replies : RepliesTo order wanted events unread left written all [] []
  pub no_question : (events_after wanted (fresh_ask_state order) events).asked ≡ None
  pub state_is : (events_after wanted (fresh_ask_state order) events).order_state.state ≡ state

abbrev pub RepliesInPart : CommandOrder → Wanted → List Event → Option (List ℕ) → Option (List ℕ) → Option (List ℕ)
    → Option (List ℕ) → Type 0
RepliesInPart order wanted events unread left written all =
    (waiting pending : List ℕ) × RepliesTo order wanted events unread left written all waiting pending

-- how a connection ends, with all that happened on it
abbrev pub ConversesAs : CommandOrder → Wanted → List Event → Option (List ℕ) → Option (List ℕ) → Option (List ℕ)
    → Option (List ℕ) → Served → Type 0
ConversesAs order wanted events unread left written all Quit =
    RepliesToAll states.Quit order wanted events unread left written all
ConversesAs order wanted events unread left written all (Ended count) =
    (x : RepliesToAll states.Serving order wanted events unread left written all)
    × (length (divide x.replies.input).rest ≡ count) × IsAtEnd left
ConversesAs order wanted events unread left written all (Failed fault) =
    (fault ≢ NoMemory → RepliesToAll (states.Failed fault) order wanted events unread left written all)
    × (fault ≡ NoMemory → RepliesInPart order wanted events unread left written all)
ConversesAs order wanted events unread left written all ReadFault =
    RepliesToAll states.Serving order wanted events unread left written all
ConversesAs order wanted events unread left written all WriteFault =
    RepliesInPart order wanted events unread left written all
ConversesAs order wanted events unread left written all TurnLimit = ⊥
