-- The numbers of the faults.
use Rattle.std.specs.Prelude.{ℕ}
use Rattle.milter_protocol.specs.declared.filter_fault.FilterFault.{FilterFault}
use Rattle.milter_protocol.specs.declared.filter_fault.FilterFault.TheVariants.{NotNegotiated, Version, OutOfOrder, TooMuch, Wire, NegotiatedTwice, NoMemory}

abbrev pub filter_fault_number : FilterFault → ℕ
filter_fault_number NotNegotiated = 1
filter_fault_number Version = 2
filter_fault_number OutOfOrder = 3
filter_fault_number TooMuch = 4
filter_fault_number (Wire fault) = 5
filter_fault_number NegotiatedTwice = 6
filter_fault_number NoMemory = 7
