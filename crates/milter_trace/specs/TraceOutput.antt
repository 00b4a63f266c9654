-- What a trace leaves with its writer.
use Rattle.std.specs.Prelude.{◌≡◌, ℕ, List, Option, None, Some, Result, Ok, Err}
use Rattle.std.specs.Io.KnownBytes.{Appends}
use Rattle.milter_text.specs.WrittenText.{WritesPrefix}
use Rattle.milter_trace.specs.declared.fault.TraceFault.{TraceFault}
use Rattle.milter_trace.specs.declared.fault.TraceFault.TheVariants.{BadLine, Packet, Truncated, ReadFault, WriteFault, TurnLimit, NoMemory}
use Rattle.milter_trace.specs.Trace.{Trace}

-- all of the text was written and nothing else, and this is how the trace ends
pub record WritesTrace (t : Trace) (fault : Option TraceFault) (before after : Option (List ℕ)) : Type 0 where
  pub appended : Appends before after t.text
  pub ending : t.fault ≡ fault

-- the faults of the input: the others are of the reader, of the writer, and of memory
abbrev pub IsInputFault : TraceFault → Type 0
IsInputFault (BadLine n) = Unit {0}
IsInputFault (Packet n d f) = Unit {0}
IsInputFault (Truncated n m) = Unit {0}
IsInputFault ReadFault = ⊥
IsInputFault WriteFault = ⊥
IsInputFault TurnLimit = ⊥
IsInputFault NoMemory = ⊥

-- a call that writes this trace ends with a fault: a prefix was written, and all of it where the input has the fault
pub record EndsWithFault (t : Trace) (before after : Option (List ℕ)) (fault : TraceFault) : Type 0 where
  pub prefix : WritesPrefix t.text before after
  pub whole : IsInputFault fault → WritesTrace t (Some fault) before after

-- how a call ends that writes this trace
abbrev pub EndsTrace : Trace → Option (List ℕ) → Option (List ℕ) → Result Unit TraceFault → Type 0
EndsTrace t before after (Ok u) = WritesTrace t None before after
EndsTrace t before after (Err fault) = EndsWithFault t before after fault
