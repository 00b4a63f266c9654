-- The fault lines of a trace, before their LF.
use Rattle.std.specs.Prelude.{ℕ, ◌==◌, List, ◌∷◌, ◌++◌, Option, None, Some, codes, decimal, if◌then◌else◌}
use Rattle.milter_trace.specs.declared.direction.Direction.{Direction}
use Rattle.milter_trace.specs.declared.direction.Direction.TheVariants.{ToFilter, ToMta}
use Rattle.milter_trace.specs.declared.fault.TraceFault.{TraceFault}
use Rattle.milter_trace.specs.declared.fault.TraceFault.TheVariants as trace
use Rattle.milter_trace.specs.PacketText.{mark_of}

-- the line of one direction
abbrev pub truncated_line : Direction → ℕ → List ℕ
truncated_line direction bytes =
    codes "end: " ++ mark_of direction ∷ codes " truncated " ++ decimal bytes ++ codes " bytes"

-- a line for each direction in which it ends so
abbrev pub truncated_lines : ℕ → ℕ → List ℕ
truncated_lines to_filter to_mta =
    if to_mta == 0 then truncated_line ToFilter to_filter
    else if to_filter == 0 then truncated_line ToMta to_mta
    else (truncated_line ToFilter to_filter ++ 10 ∷ truncated_line ToMta to_mta)

-- the lines of a trace's fault; the words of a packet's fault are those of `WireFault`, which states none
abbrev pub fault_text : TraceFault → Option (List ℕ)
fault_text (trace.BadLine number) = Some (codes "line " ++ decimal number ++ codes ": bad line")
fault_text (trace.Packet number direction fault) = None
fault_text (trace.Truncated to_filter to_mta) = Some (truncated_lines to_filter to_mta)
fault_text trace.ReadFault = Some (codes "read fault")
fault_text trace.WriteFault = Some (codes "write fault")
fault_text trace.TurnLimit = Some (codes "turn limit")
fault_text trace.NoMemory = Some (codes "out of memory")
