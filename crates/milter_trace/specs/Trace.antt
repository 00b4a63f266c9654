-- The text of a trace: for each line the packets of its direction that become whole in it, up to the first fault.
use Rattle.std.specs.Prelude.{ℕ, ◌+◌, ◌==◌, List, [], ◌∷◌, ◌++◌, length, drop, Option, Some, None, Result, Ok, Err, if◌then◌else◌, ◌&&◌}
use Rattle.std.specs.List.{flat_map}
use Rattle.milter_fields.specs.declared.fault.WireFault.{WireFault}
use Rattle.milter_fields.specs.Stream.{Frame, divide, length_fault}
use Rattle.milter_text.specs.Lines.{Line, lines_of}
use Rattle.milter_trace.specs.declared.direction.Direction.{Direction}
use Rattle.milter_trace.specs.declared.direction.Direction.TheVariants.{ToFilter, ToMta}
use Rattle.milter_trace.specs.declared.fault.TraceFault.{TraceFault}
use Rattle.milter_trace.specs.declared.fault.TraceFault.TheVariants.{BadLine, Packet, Truncated}
use Rattle.milter_trace.specs.ParsedLine.{ParsedLine, Skipped, Bad, Carries, parsed_line}
use Rattle.milter_trace.specs.declared.form.TraceForm.{TraceForm}
use Rattle.milter_trace.specs.PacketText.{packet_text_in, plain_form}

-- the text, and the fault that ends it, if there is one
pub record Trace : Type 0 where
  pub text : List ℕ
  pub fault : Option TraceFault

abbrev pub empty_trace : Trace
empty_trace = record { text = []; fault = None }

abbrev pub fault_trace : TraceFault → Trace
fault_trace fault = record { text = []; fault = Some fault }

-- the trace with more text before it
abbrev pub prepend_text : List ℕ → Trace → Trace
prepend_text text t = record { text = text ++ t.text; fault = t.fault }

abbrev pub continue_unless : List ℕ → Option TraceFault → Trace → Trace
continue_unless text (Some fault) more = record { text = text; fault = Some fault }
continue_unless text None more = record { text = text ++ more.text; fault = more.fault }

-- one trace, and the next where the first has no fault
abbrev pub followed_by : Trace → Trace → Trace
followed_by first more = continue_unless first.text first.fault more

-- ---- the bytes of a direction

abbrev pub bytes_if : Direction → Direction → List ℕ → List ℕ
bytes_if ToFilter ToFilter bytes = bytes
bytes_if ToFilter ToMta bytes = []
bytes_if ToMta ToFilter bytes = []
bytes_if ToMta ToMta bytes = bytes

abbrev pub line_bytes : Direction → ParsedLine → List ℕ
line_bytes direction Skipped = []
line_bytes direction Bad = []
line_bytes direction (Carries d bytes) = bytes_if direction d bytes

-- what lines carry in a direction, one after the other
abbrev pub stream : Direction → List Line → List ℕ
stream direction lines = flat_map (λ line. line_bytes direction (parsed_line line)) lines

-- the packets of a direction that become whole with these bytes, after the lines before
abbrev pub new_packets : List Line → Direction → List ℕ → List Frame
new_packets before direction bytes =
    drop (length (divide (stream direction before)).frames) (divide (stream direction before ++ bytes)).frames

-- the length that no packet has, if the stream comes to one with these bytes
abbrev pub new_fault : List Line → Direction → List ℕ → Option WireFault
new_fault before direction bytes = length_fault (divide (stream direction before ++ bytes)).rest

-- ---- a line

abbrev pub length_fault_trace : ℕ → Direction → Option WireFault → Trace
length_fault_trace number direction None = empty_trace
length_fault_trace number direction (Some fault) = fault_trace (Packet number direction fault)

abbrev pub packet_trace : ℕ → Direction → Result (List ℕ) WireFault → Trace → Trace
packet_trace number direction (Ok text) more = prepend_text text more
packet_trace number direction (Err fault) more = fault_trace (Packet number direction fault)

-- packets one after the other, up to the first one at fault, and then a length at fault
abbrev pub packets_trace : TraceForm → ℕ → Direction → List Frame → Option WireFault → Trace
packets_trace form number direction [] fault = length_fault_trace number direction fault
packets_trace form number direction (f ∷ frames) fault =
    packet_trace number direction (packet_text_in form direction f) (packets_trace form number direction frames fault)

-- the trace of the line after the lines before
abbrev pub line_trace : TraceForm → List Line → ParsedLine → Trace
line_trace form before Skipped = empty_trace
line_trace form before Bad = fault_trace (BadLine (length before + 1))
line_trace form before (Carries direction bytes) =
    packets_trace form (length before + 1) direction (new_packets before direction bytes)
    (new_fault before direction bytes)

-- ---- the whole

-- the end of the input, with the bytes of packets that aren't whole
abbrev pub end_trace : ℕ → ℕ → Trace
end_trace to_filter to_mta =
    if to_filter == 0 && to_mta == 0 then empty_trace else fault_trace (Truncated to_filter to_mta)

-- the unread bytes of a direction after these lines
abbrev pub unread_after : Direction → List Line → List ℕ
unread_after direction lines = (divide (stream direction lines)).rest

abbrev pub trace_after : TraceForm → List Line → List Line → Trace
trace_after form before [] = end_trace (length (unread_after ToFilter before)) (length (unread_after ToMta before))
trace_after form before (line ∷ lines) =
    followed_by (line_trace form before (parsed_line line)) (trace_after form (before ++ line ∷ []) lines)

-- the trace of an input in a form
abbrev pub trace_in : TraceForm → List ℕ → Trace
trace_in form input = trace_after form [] (lines_of input)

-- the same with nothing beside what lines always have
abbrev pub trace_of : List ℕ → Trace
trace_of input = trace_in plain_form input
