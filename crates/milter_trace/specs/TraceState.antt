-- A trace under way: its state between two lines, and the trace of the lines that follow.
use Rattle.std.specs.Prelude.{◌≡◌, ◌≢◌, ℕ, ◌+◌, List, [], ◌∷◌, ◌++◌, length, All, None, Some, Result, Ok, Err}
use Rattle.milter_fields.specs.declared.fault.WireFault.{WireFault}
use Rattle.milter_fields.specs.declared.fault.WireFault.TheVariants as wires
use Rattle.milter_fields.specs.Stream.{Division, divide, length_fault}
use Rattle.milter_text.specs.Lines.{Line, lines_of}
use Rattle.milter_trace.specs.declared.direction.Direction.{Direction}
use Rattle.milter_trace.specs.declared.direction.Direction.TheVariants.{ToFilter, ToMta}
use Rattle.milter_trace.specs.declared.fault.TraceFault.{TraceFault}
use Rattle.milter_trace.specs.declared.fault.TraceFault.TheVariants.{BadLine, Packet, Truncated, ReadFault, WriteFault, TurnLimit, NoMemory}
use Rattle.milter_trace.specs.declared.form.TraceForm.{TraceForm}
use Rattle.milter_trace.specs.ParsedLine.{ParsedLine, Skipped, Bad, Carries, parsed_line}
use Rattle.milter_trace.specs.Trace.{Trace, empty_trace, fault_trace, prepend_text, followed_by, packets_trace, end_trace}

-- how packets are printed, how many lines there were, and the bytes of packets that aren't whole
pub record TraceState : Type 0 where
  pub form : TraceForm
  pub lines : ℕ
  pub to_filter : List ℕ
  pub to_mta : List ℕ

-- before the first line
abbrev pub initial_state : TraceForm → TraceState
initial_state form = record { form = form; lines = 0; to_filter = []; to_mta = [] }

abbrev pub unread_in : Direction → TraceState → List ℕ
unread_in ToFilter h = h.to_filter
unread_in ToMta h = h.to_mta

-- the state with other unread bytes in a direction
abbrev pub with_unread : TraceState → Direction → List ℕ → TraceState
with_unread h ToFilter bytes = record h { to_filter = bytes }
with_unread h ToMta bytes = record h { to_mta = bytes }

-- the state with one line more
abbrev pub with_line_counted : TraceState → TraceState
with_line_counted h = record h { lines = h.lines + 1 }

-- the trace of the packets and the fault of a division
abbrev pub division_trace : TraceForm → ℕ → Direction → Division → Trace
division_trace form number direction d = packets_trace form number direction d.frames (length_fault d.rest)

-- the trace of the next line
abbrev pub next_trace : TraceState → ParsedLine → Trace
next_trace h Skipped = empty_trace
next_trace h Bad = fault_trace (BadLine (h.lines + 1))
next_trace h (Carries direction bytes) =
    division_trace h.form (h.lines + 1) direction (divide (unread_in direction h ++ bytes))

-- the state after it
abbrev pub next_state : TraceState → ParsedLine → TraceState
next_state h Skipped = with_line_counted h
next_state h Bad = with_line_counted h
next_state h (Carries direction bytes) =
    with_line_counted (with_unread h direction (divide (unread_in direction h ++ bytes)).rest)

-- the trace of lines from a state on
abbrev pub trace_from : TraceState → List Line → Trace
trace_from h [] = end_trace (length h.to_filter) (length h.to_mta)
trace_from h (line ∷ lines) =
    followed_by (next_trace h (parsed_line line)) (trace_from (next_state h (parsed_line line)) lines)

-- the fault of a packet in a line
abbrev pub packet_fault : ℕ → Direction → WireFault → TraceFault
packet_fault line direction wires.ZeroLength = Packet line direction wires.ZeroLength
packet_fault line direction (wires.TooLong n) = Packet line direction (wires.TooLong n)
packet_fault line direction (wires.UnknownCode n) = Packet line direction (wires.UnknownCode n)
packet_fault line direction (wires.Malformed n) = Packet line direction (wires.Malformed n)
packet_fault line direction (wires.Truncated n) = Packet line direction (wires.Truncated n)
packet_fault line direction wires.NoMemory = NoMemory

-- ---- what a call leaves

-- The text of the trace was appended, and the result is its fault, unless memory was refused.
abbrev pub AppendsTrace : Trace → List ℕ → List ℕ → Result Unit TraceFault → Type 0
AppendsTrace t old new (Ok u) = (new ≡ old ++ t.text) × (t.fault ≡ None)
AppendsTrace t old new (Err (BadLine n)) = (new ≡ old ++ t.text) × (t.fault ≡ Some (BadLine n))
AppendsTrace t old new (Err (Packet n d f)) = (new ≡ old ++ t.text) × (t.fault ≡ Some (Packet n d f))
AppendsTrace t old new (Err (Truncated n m)) = (new ≡ old ++ t.text) × (t.fault ≡ Some (Truncated n m))
AppendsTrace t old new (Err ReadFault) = ⊥
AppendsTrace t old new (Err WriteFault) = ⊥
AppendsTrace t old new (Err TurnLimit) = ⊥
AppendsTrace t old new (Err NoMemory) = Unit {0}

-- The trace to come is the same before and after the call, or ends with the fault of the result.
abbrev pub ContinuesTrace : Trace → Trace → List ℕ → Result Unit TraceFault → Type 0
ContinuesTrace before after text (Ok u) = after ≡ before
ContinuesTrace before after text (Err (BadLine n)) = record { text = text; fault = Some (BadLine n) } ≡ before
ContinuesTrace before after text (Err (Packet n d f)) = record { text = text; fault = Some (Packet n d f) } ≡ before
ContinuesTrace before after text (Err (Truncated n m)) = record { text = text; fault = Some (Truncated n m) } ≡ before
ContinuesTrace before after text (Err ReadFault) = ⊥
ContinuesTrace before after text (Err WriteFault) = ⊥
ContinuesTrace before after text (Err TurnLimit) = ⊥
ContinuesTrace before after text (Err NoMemory) = Unit {0}

-- no byte is LF
abbrev pub HasNoLf : List ℕ → Type 0
HasNoLf bytes = All (λ byte. byte ≢ 10) bytes

-- the trace to come after this text, from a state, a line that has begun, and the bytes that follow
abbrev pub trace_to_come : List ℕ → TraceState → List ℕ → List ℕ → Trace
trace_to_come text h begun bytes = prepend_text text (trace_from h (lines_of (begun ++ bytes)))
