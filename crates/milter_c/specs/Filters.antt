-- A filter's end as a caller in C has it.
use Rattle.std.specs.Prelude.{◌≡◌, ◌≢◌, ℕ, ℤ, List, [], ◌++◌, Option, Some}
use Rattle.milter_protocol.specs.declared.answer.Answer.{Answer}
use Rattle.milter_protocol.specs.declared.filter_fault.FilterFault.{FilterFault}
use Rattle.milter_protocol.specs.declared.filter_fault.FilterFault.TheVariants.{NoMemory}
use Rattle.milter_protocol.specs.Questions.{IsTaking, Wanted}
use Rattle.milter_protocol.specs.Seen.{Seen}
use Rattle.milter_wire.specs.declared.stage.Stage.{Stage}
use Rattle.milter_filter_stream.specs.declared.answer_fault.AnswerFault.{AnswerFault}
use Rattle.milter_filter_stream.specs.declared.answer_fault.AnswerFault.TheVariants as refusals
use Rattle.milter_filter_stream.specs.declared.wants_fault.WantsFault.{WantsFault}
use Rattle.milter_filter_stream.specs.AnswerFaults.{Breaks}
use Rattle.milter_filter_stream.specs.WantsFaults.{WantsBreak}
use Rattle.milter_filter_stream.specs.Conversations.{Conversation, GivesUpIn, given_up_in}
use Rattle.milter_filter_stream.specs.Streams.{received_in}
use Rattle.milter_c_objects.specs.Faults.{answer_fault_number, filter_fault_number, wants_fault_number}

-- what a filter wants by these numbers, without symbol lists
abbrev pub wanted_by : ℕ → ℕ → ℕ → Wanted
wanted_by version actions protocol =
    record {
      options = record { version = version; actions = record { 0 = actions }; protocol = record { 0 = protocol } };
      lists = [];
    }

-- what the filter is shown
abbrev pub seen_of : Conversation → Seen
seen_of conversation = conversation.state.order_state.shown.seen

-- the number of a rule that what a filter wants breaks
pub record BreaksWants (wanted : Wanted) (status : ℤ) : Type 0 where
  pub fault : WantsFault
  pub number : status ≡ wants_fault_number fault
  pub broken : WantsBreak wanted fault

-- the number of a rule that the answer breaks at this stage, or of refused memory
pub record IsRefused (stage : Stage) (answer : Answer) (status : ℤ) : Type 0 where
  pub fault : AnswerFault
  pub number : status ≡ answer_fault_number fault
  pub broken : fault ≢ refusals.NoMemory → Breaks stage answer fault

-- given up for the fault of this number, which is found in the packets that came, or is refused memory
pub record IsGivenUp (old : Conversation) (piece : List ℕ) (status : ℤ) (new : Option Conversation) : Type 0 where
  pub fault : FilterFault
  pub number : status ≡ filter_fault_number fault
  pub given_up : new ≡ Some (given_up_in old fault)
  pub cause :
      IsTaking old.state → old.pending ≡ [] → fault ≢ NoMemory →
      GivesUpIn old.wanted old.state (received_in (old.unread ++ piece)) fault
