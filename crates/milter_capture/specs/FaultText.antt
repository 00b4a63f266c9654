-- The fault lines of captures, before their LF.
use Rattle.std.specs.Prelude.{ℕ, List, ◌++◌, Option, None, Some, codes, decimal}
use Rattle.milter_capture.specs.declared.fault.CaptureFault.{CaptureFault}
use Rattle.milter_capture.specs.declared.fault.CaptureFault.TheVariants.{NotCapture, Truncated, BadRecord, LinkType, NoMemory}

-- the line of each fault; that of a link type is stated nowhere
abbrev pub capture_fault_text : CaptureFault → Option (List ℕ)
capture_fault_text NotCapture = Some (codes "not a capture")
capture_fault_text (Truncated number) = Some (codes "record " ++ decimal number ++ codes ": truncated")
capture_fault_text (BadRecord number) = Some (codes "record " ++ decimal number ++ codes ": bad record")
capture_fault_text (LinkType number link) = None
capture_fault_text NoMemory = Some (codes "out of memory")
