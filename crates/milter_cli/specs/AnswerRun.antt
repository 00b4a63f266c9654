-- How answering to a mail server ends.
use Rattle.std.specs.Prelude.{ℕ, ◌==◌, List, ◌++◌, Result, Ok, Err, codes, decimal, if◌then◌else◌}
use Rattle.milter_protocol.specs.FilterFault.{filter_fault_number}
use Rattle.milter_protocol.specs.declared.filter_fault.FilterFault.{FilterFault}
use Rattle.milter_protocol.specs.declared.filter_fault.FilterFault.TheVariants as faults
use Rattle.milter_filter.specs.declared.turn.Served.{Served}
use Rattle.milter_filter.specs.declared.turn.Served.TheVariants as served
use Rattle.milter_cli.specs.declared.answer_error.AnswerError.{AnswerError}
use Rattle.milter_cli.specs.declared.answer_error.AnswerError.TheVariants.{Fault, Truncated, Read, Write}
use Rattle.milter_cli.specs.declared.answer_error.AnswerError.TheVariants.{TurnLimit, NoMemory}

-- the number of a fault, or that memory was refused
abbrev pub fault_error : FilterFault → AnswerError
fault_error faults.NoMemory = NoMemory
fault_error fault = Fault (filter_fault_number fault)

-- no error where the mail server has quit, or where the input ended after a packet
abbrev pub ended_as : Served → Result Unit AnswerError
ended_as served.Quit = Ok tt
ended_as (served.Ended bytes) = if bytes == 0 then Ok tt else Err (Truncated bytes)
ended_as (served.Failed fault) = Err (fault_error fault)
ended_as served.ReadFault = Err Read
ended_as served.WriteFault = Err Write
ended_as served.TurnLimit = Err TurnLimit

-- the line of an error
abbrev pub answer_error_text : AnswerError → List ℕ
answer_error_text (Fault number) = codes "filter fault " ++ decimal number
answer_error_text (Truncated bytes) = codes "input truncated " ++ decimal bytes ++ codes " bytes"
answer_error_text Read = codes "read fault"
answer_error_text Write = codes "write fault"
answer_error_text TurnLimit = codes "turn limit"
answer_error_text NoMemory = codes "out of memory"
