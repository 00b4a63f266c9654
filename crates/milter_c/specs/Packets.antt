-- The packets of a caller in C: what they are decoded to, and their lines.
use Rattle.std.specs.Prelude.{◌≡◌, ◌≢◌, ◌==◌, ◌++◌, [], ℕ, ℤ, List, MatchResult, Option, None, Some, Result, if◌then◌else◌}
use Rattle.milter_fields.specs.Stream.{Frame}
use Rattle.milter_fields.specs.declared.fault.WireFault.{WireFault}
use Rattle.milter_trace.specs.declared.direction.Direction.{Direction}
use Rattle.milter_trace.specs.declared.direction.Direction.TheVariants as directions
use Rattle.milter_trace.specs.declared.fault.TraceFault.{TraceFault}
use Rattle.milter_trace.specs.declared.fault.TraceFault.TheVariants as faults
use Rattle.milter_trace.specs.PrintedPackets.{PrintedPackets, bytes_trace}
use Rattle.milter_c_objects.specs.Faults.{wire_fault_number}
use Rattle.milter_c_objects.specs.declared.status.TheConstants.{BAD_ARGUMENT, NO_MEMORY, TO_FILTER, TO_MTA}
use Rattle.milter_c_objects.specs.declared.decoded.Decoded.{Decoded}

abbrev pub frame_of : ℕ → List ℕ → Frame
frame_of code payload = record { code = code; payload = payload }

-- the number of the fault for which this can't be read
abbrev pub IsUnread : Result Decoded WireFault → ℤ → Type 0
IsUnread read status = MatchResult read (λ decoded. ⊥) (λ fault. status ≡ wire_fault_number fault)

-- the direction of a number, if it is one of a direction
abbrev pub direction_numbered : ℕ → Option Direction
direction_numbered n =
    if n == TO_FILTER then Some directions.ToFilter
    else if n == TO_MTA then Some directions.ToMta
    else None

-- the number of a fault for which packets aren't printed; the others are faults of lines, and of readers and writers
abbrev pub trace_fault_number : TraceFault → ℤ
trace_fault_number (faults.Packet line direction fault) = wire_fault_number fault
trace_fault_number faults.NoMemory = NO_MEMORY
trace_fault_number other = BAD_ARGUMENT

-- stopped by the fault of this number: that of the packets, whose lines before it were added, or refused memory
pub record IsStopped (direction : Direction) (bytes : List ℕ) (old new : PrintedPackets) (status : ℤ) : Type 0 where
  pub fault : TraceFault
  pub number : status ≡ trace_fault_number fault
  pub stopped : new.fault ≡ Some fault
  pub cause : old.fault ≡ None → fault ≢ faults.NoMemory → (bytes_trace direction bytes old).fault ≡ Some fault
  pub text : old.fault ≡ None → fault ≢ faults.NoMemory
      → new.text ≡ old.text ++ (bytes_trace direction bytes old).text
  pub refused : old.fault ≡ None → fault ≡ faults.NoMemory → new.text ≡ []
  pub kept : old.fault ≢ None → new ≡ old
