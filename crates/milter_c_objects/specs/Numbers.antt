-- The numbers of stages, steps, states and verdicts.
use Rattle.std.specs.Prelude.{◌==◌, ℕ, ℤ, Option, None, Some, if◌then◌else◌}
use Rattle.milter_wire.specs.declared.stage.Stage.{Stage}
use Rattle.milter_wire.specs.declared.stage.Stage.TheVariants as stages
use Rattle.milter_wire.specs.declared.verdict.Verdict.{Verdict}
use Rattle.milter_wire.specs.declared.verdict.Verdict.TheVariants as verdicts
use Rattle.milter_protocol.specs.declared.filter_fault.FilterState.{FilterState}
use Rattle.milter_protocol.specs.declared.filter_fault.FilterState.TheVariants.{Failed, Quit, Serving}
use Rattle.milter_filter_stream.specs.declared.filter_stream.NextStep.{NextStep}
use Rattle.milter_filter_stream.specs.declared.filter_stream.NextStep.TheVariants as steps
use Rattle.milter_c_objects.specs.declared.status.TheConstants as numbers
use Rattle.milter_c_objects.specs.Faults.{filter_fault_number}

abbrev pub stage_number : Stage → ℕ
stage_number stages.Connect = numbers.STAGE_CONNECT
stage_number stages.Helo = numbers.STAGE_HELO
stage_number stages.Mail = numbers.STAGE_MAIL
stage_number stages.Rcpt = numbers.STAGE_RCPT
stage_number stages.DataCmd = numbers.STAGE_DATA
stage_number stages.Header = numbers.STAGE_HEADER
stage_number stages.Eoh = numbers.STAGE_EOH
stage_number stages.Body = numbers.STAGE_BODY
stage_number stages.Eob = numbers.STAGE_EOB

abbrev pub step_number : NextStep → ℤ
step_number steps.Feed = numbers.STEP_FEED
step_number steps.Send = numbers.STEP_SEND
step_number (steps.Answer stage) = numbers.STEP_ANSWER
step_number steps.Done = numbers.STEP_DONE

abbrev pub state_status_of : FilterState → ℤ
state_status_of Serving = numbers.OK
state_status_of Quit = numbers.NOTHING
state_status_of (Failed fault) = filter_fault_number fault

-- the verdict of a number, if it is one of a verdict
abbrev pub verdict_numbered : ℕ → Option Verdict
verdict_numbered n =
    if n == numbers.CONTINUE then Some verdicts.Continue
    else if n == numbers.ACCEPT then Some verdicts.Accept
    else if n == numbers.REJECT then Some verdicts.Reject
    else if n == numbers.TEMPFAIL then Some verdicts.Tempfail
    else if n == numbers.DISCARD then Some verdicts.Discard
    else if n == numbers.SKIP then Some verdicts.Skip
    else None
