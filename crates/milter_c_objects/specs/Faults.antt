-- The numbers of faults.
use Rattle.std.specs.Prelude.{ℤ, Result, Ok, Err}
use Rattle.milter_fields.specs.declared.fault.NoMemory.{NoMemory}
use Rattle.milter_fields.specs.declared.fault.WireFault.{WireFault}
use Rattle.milter_fields.specs.declared.fault.WireFault.TheVariants as wire
use Rattle.milter_protocol.specs.declared.filter_fault.FilterFault.{FilterFault}
use Rattle.milter_protocol.specs.declared.filter_fault.FilterFault.TheVariants as filter
use Rattle.milter_filter_stream.specs.declared.answer_fault.AnswerFault.{AnswerFault}
use Rattle.milter_filter_stream.specs.declared.answer_fault.AnswerFault.TheVariants as answer
use Rattle.milter_filter_stream.specs.declared.wants_fault.WantsFault.{WantsFault}
use Rattle.milter_filter_stream.specs.declared.wants_fault.WantsFault.TheVariants as wants
use Rattle.milter_c_objects.specs.declared.status.TheConstants as status

abbrev pub wire_fault_number : WireFault → ℤ
wire_fault_number wire.ZeroLength = status.WIRE_ZERO_LENGTH
wire_fault_number (wire.TooLong stated) = status.WIRE_TOO_LONG
wire_fault_number (wire.UnknownCode code) = status.WIRE_UNKNOWN_CODE
wire_fault_number (wire.Malformed code) = status.WIRE_MALFORMED
wire_fault_number (wire.Truncated bytes) = status.WIRE_TRUNCATED
wire_fault_number wire.NoMemory = status.WIRE_NO_MEMORY

abbrev pub filter_fault_number : FilterFault → ℤ
filter_fault_number filter.NotNegotiated = status.FILTER_NOT_NEGOTIATED
filter_fault_number filter.Version = status.FILTER_VERSION
filter_fault_number filter.OutOfOrder = status.FILTER_OUT_OF_ORDER
filter_fault_number filter.TooMuch = status.FILTER_TOO_MUCH
filter_fault_number (filter.Wire fault) = status.FILTER_WIRE
filter_fault_number filter.NegotiatedTwice = status.FILTER_NEGOTIATED_TWICE
filter_fault_number filter.NoMemory = status.FILTER_NO_MEMORY

abbrev pub answer_fault_number : AnswerFault → ℤ
answer_fault_number answer.NotAsked = status.ANSWER_NOT_ASKED
answer_fault_number answer.EditsBeforeEnd = status.ANSWER_EDITS_BEFORE_END
answer_fault_number answer.NotGivenThere = status.ANSWER_NOT_GIVEN_THERE
answer_fault_number answer.BadText = status.ANSWER_BAD_TEXT
answer_fault_number answer.TooLong = status.ANSWER_TOO_LONG
answer_fault_number answer.TooMuch = status.ANSWER_TOO_MUCH
answer_fault_number answer.NotAtEnd = status.ANSWER_NOT_AT_END
answer_fault_number answer.NoMemory = status.ANSWER_NO_MEMORY

abbrev pub wants_fault_number : WantsFault → ℤ
wants_fault_number wants.Version = status.WANTS_VERSION
wants_fault_number wants.Action = status.WANTS_ACTION
wants_fault_number wants.Protocol = status.WANTS_PROTOCOL
wants_fault_number wants.Lists = status.WANTS_LISTS
wants_fault_number wants.BadText = status.WANTS_BAD_TEXT
wants_fault_number wants.TooLong = status.WANTS_TOO_LONG

-- of a function whose only fault is refused memory
abbrev pub memory_status_of : Result Unit NoMemory → ℤ
memory_status_of (Ok done) = status.OK
memory_status_of (Err refused) = status.NO_MEMORY

-- of a function that gives an answer, or reports progress
abbrev pub answer_status_of : Result Unit AnswerFault → ℤ
answer_status_of (Ok done) = status.OK
answer_status_of (Err fault) = answer_fault_number fault
