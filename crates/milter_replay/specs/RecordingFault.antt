-- The faults of a trace that can't be played again.
use Rattle.std.specs.Prelude.{ℕ, Option, None, Some}
use Rattle.milter_trace.specs.declared.fault.TraceFault.TheVariants.{BadLine, Packet}
use Rattle.milter_replay.specs.declared.recording_fault.RecordingFault.{RecordingFault}
use Rattle.milter_replay.specs.declared.recording_fault.RecordingFault.TheVariants.{Trace, Truncated, NoOffer, SecondOffer}

abbrev pub recording_fault_number : RecordingFault → ℕ
recording_fault_number (Trace (BadLine line)) = 1
recording_fault_number (Trace (Packet line direction fault)) = 2
recording_fault_number (Trace other) = 6
recording_fault_number (Truncated line) = 3
recording_fault_number (NoOffer line) = 4
recording_fault_number (SecondOffer line) = 5

-- refused memory has no line
abbrev pub recording_fault_line : RecordingFault → Option ℕ
recording_fault_line (Trace (BadLine line)) = Some line
recording_fault_line (Trace (Packet line direction fault)) = Some line
recording_fault_line (Trace other) = None
recording_fault_line (Truncated line) = Some line
recording_fault_line (NoOffer line) = Some line
recording_fault_line (SecondOffer line) = Some line
