-- The numbers of the faults.
use Rattle.std.specs.Prelude.{ℕ}
use Rattle.milter_fields.specs.declared.fault.WireFault.{WireFault}
use Rattle.milter_fields.specs.declared.fault.WireFault.TheVariants.{ZeroLength, TooLong, UnknownCode, Malformed, Truncated, NoMemory}

abbrev pub wire_fault_number : WireFault → ℕ
wire_fault_number ZeroLength = 1
wire_fault_number (TooLong length) = 2
wire_fault_number (UnknownCode code) = 3
wire_fault_number (Malformed code) = 4
wire_fault_number (Truncated bytes) = 5
wire_fault_number NoMemory = 6
