-- What a whole trace leaves, where the bytes of its reader and its writer are known.
use Rattle.std.specs.Prelude.{ℕ, ◌≤◌, List, length, Option, IfSome}
use Rattle.milter_trace.specs.declared.fault.TraceFault.{TraceFault}
use Rattle.milter_trace.specs.declared.form.TraceForm.{TraceForm}
use Rattle.milter_trace.specs.PacketText.{plain_form}
use Rattle.milter_trace.specs.Trace.{trace_in}
use Rattle.milter_text.specs.WrittenText.{WritesPrefix}
use Rattle.milter_trace.specs.TraceOutput.{WritesTrace}

-- the text of the whole input in a form was written, and the trace of the input ends so
abbrev pub WritesTraceIn : TraceForm → Option TraceFault → Option (List ℕ) → Option (List ℕ) → Option (List ℕ) → Type 0
WritesTraceIn form fault input before after =
    IfSome input (λ bytes. WritesTrace (trace_in form bytes) fault before after)

-- a prefix of the text of the whole input in a form was written
abbrev pub WritesPrefixIn : TraceForm → Option (List ℕ) → Option (List ℕ) → Option (List ℕ) → Type 0
WritesPrefixIn form input before after = IfSome input (λ bytes. WritesPrefix (trace_in form bytes).text before after)

-- the same two with nothing beside what lines always have
abbrev pub WritesTraceOf : Option TraceFault → Option (List ℕ) → Option (List ℕ) → Option (List ℕ) → Type 0
WritesTraceOf fault input before after = WritesTraceIn plain_form fault input before after

abbrev pub WritesPrefixOf : Option (List ℕ) → Option (List ℕ) → Option (List ℕ) → Type 0
WritesPrefixOf input before after = WritesPrefixIn plain_form input before after

-- the bytes that an input has at least, where a trace of it gives up
abbrev pub read_max : ℕ
read_max = 1073741824

-- the input has at least so many bytes
abbrev pub HasBytes : ℕ → Option (List ℕ) → Type 0
HasBytes count input = IfSome input (λ bytes. count ≤ length bytes)
