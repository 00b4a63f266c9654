-- The numbers of what a mail server's end answers.
use Rattle.std.specs.Prelude.{ℕ, nat_eq, ℤ, List, [], Option, None, Some, Result, Ok, Err, if◌then◌else◌}
use Rattle.std.specs.Ordering.{int_eq}
use Rattle.milter_wire.specs.declared.verdict.Verdict.{Verdict}
use Rattle.milter_wire.specs.declared.verdict.Verdict.TheVariants as verdicts
use Rattle.milter_mta_outcome.specs.declared.loss.Loss.{Loss}
use Rattle.milter_mta_outcome.specs.declared.loss.Loss.TheVariants as losses
use Rattle.milter_mta_outcome.specs.declared.loss.MtaFault.{MtaFault}
use Rattle.milter_mta_outcome.specs.declared.loss.MtaFault.TheVariants as faults
use Rattle.milter_mta_connection.specs.declared.filter_event.FilterEvent.{FilterEvent}
use Rattle.milter_mta_connection.specs.declared.filter_event.FilterEvent.TheVariants as events
use Rattle.milter_mta_connection.specs.declared.call_outcome.CallFault.{CallFault}
use Rattle.milter_mta_connection.specs.declared.call_outcome.CallFault.TheVariants as call_faults
use Rattle.milter_mta_connection.specs.declared.call_outcome.CallOutcome.{CallOutcome}
use Rattle.milter_mta_connection.specs.declared.call_outcome.CallOutcome.TheVariants.{LeftOut, NoReply, VerdictDue}
use Rattle.milter_mta_connection.specs.declared.mta_connection.Want.{Want}
use Rattle.milter_mta_connection.specs.declared.mta_connection.Want.TheVariants as wants
use Rattle.milter_c_objects.specs.declared.status.TheConstants as status

-- ---- calls

-- the outcome of a number
abbrev pub outcome_in : ℕ → CallOutcome
outcome_in number =
    if nat_eq number status.OUTCOME_LEFT_OUT then LeftOut
    else if nat_eq number status.OUTCOME_NO_REPLY then NoReply
    else VerdictDue

-- the fault of a status that isn't OK
abbrev pub call_fault_in : ℤ → CallFault
call_fault_in s =
    if int_eq s status.CALL_CLOSED then call_faults.Closed
    else if int_eq s status.CALL_BUSY then call_faults.Busy
    else if int_eq s status.CALL_OUT_OF_ORDER then call_faults.OutOfOrder
    else if int_eq s status.CALL_DOES_NOT_FIT then call_faults.DoesNotFit
    else call_faults.NoMemory

-- what came of a call, by its status and the number of its outcome
abbrev pub call_result : ℤ → ℕ → Result CallOutcome CallFault
call_result s outcome = if int_eq s status.OK then Ok (outcome_in outcome) else Err (call_fault_in s)

-- ---- wants, events and losses

abbrev pub want_number : Want → ℤ
want_number wants.Send = status.WANT_SEND
want_number wants.Receive = status.WANT_RECEIVE
want_number wants.Command = status.WANT_COMMAND
want_number wants.Nothing = status.WANT_NOTHING

abbrev pub event_number : FilterEvent → ℤ
event_number events.Nothing = status.EVENT_NOTHING
event_number events.InProgress = status.EVENT_IN_PROGRESS
event_number events.Negotiated = status.EVENT_NEGOTIATED
event_number (events.Verdict verdict) = status.EVENT_VERDICT

-- the verdict of an event that is one
abbrev pub verdict_in : FilterEvent → Option Verdict
verdict_in (events.Verdict verdict) = Some verdict
verdict_in other = None

abbrev pub verdict_number : Verdict → ℕ
verdict_number verdicts.Continue = status.CONTINUE
verdict_number verdicts.Accept = status.ACCEPT
verdict_number verdicts.Reject = status.REJECT
verdict_number verdicts.Tempfail = status.TEMPFAIL
verdict_number verdicts.Discard = status.DISCARD
verdict_number verdicts.Skip = status.SKIP
verdict_number (verdicts.Code text) = status.CODE

abbrev pub verdict_text : Verdict → List ℕ
verdict_text (verdicts.Code text) = text
verdict_text other = []

abbrev pub mta_fault_status : MtaFault → ℤ
mta_fault_status (faults.Wire fault) = status.LOSS_WIRE
mta_fault_status faults.Version = status.LOSS_VERSION
mta_fault_status faults.ActionsNotOffered = status.LOSS_ACTIONS_NOT_OFFERED
mta_fault_status faults.ProtocolNotOffered = status.LOSS_PROTOCOL_NOT_OFFERED
mta_fault_status faults.NotAtThisStage = status.LOSS_NOT_AT_THIS_STAGE
mta_fault_status faults.EditNotNegotiated = status.LOSS_EDIT_NOT_NEGOTIATED
mta_fault_status faults.TooManyEdits = status.LOSS_TOO_MANY_EDITS
mta_fault_status faults.Early = status.LOSS_EARLY

-- a filter that isn't lost is OK
abbrev pub loss_status : Option Loss → ℤ
loss_status None = status.OK
loss_status (Some losses.Reset) = status.LOSS_RESET
loss_status (Some losses.Timeout) = status.LOSS_TIMEOUT
loss_status (Some losses.Memory) = status.LOSS_NO_MEMORY
loss_status (Some (losses.Fault fault)) = mta_fault_status fault
