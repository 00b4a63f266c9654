-- The faults of the lines of lists.
use Rattle.std.specs.Prelude.{◌≡◌, ℕ, ◌≤◌, ◌<◌, IfSome, Option, None, Some}
use Rattle.milter_text.specs.declared.line_fault.LineFault.{LineFault}
use Rattle.milter_text.specs.declared.line_fault.LineFault.TheVariants as line_faults
use Rattle.milter_lists.specs.declared.source_fault.SourceFault.{SourceFault}
use Rattle.milter_lists.specs.declared.source_fault.SourceFault.TheVariants.{UnknownWord, TooLarge, NoMemory}

abbrev pub source_fault_line : SourceFault → Option ℕ
source_fault_line (UnknownWord n) = Some n
source_fault_line (TooLarge n) = Some n
source_fault_line NoMemory = None

-- a line that is not in words has an unknown word
abbrev pub of_line_fault : LineFault → SourceFault
of_line_fault (line_faults.NotInWords n) = UnknownWord n
of_line_fault line_faults.NoMemory = NoMemory

-- the fault is of the line with this number, unless it is NoMemory
abbrev pub IsFaultAt : ℕ → SourceFault → Type 0
IsFaultAt number fault = IfSome (source_fault_line fault) (λ line. line ≡ number)

-- the fault is of a line from 1 to the one before this, unless it is NoMemory
abbrev pub IsFaultBefore : ℕ → SourceFault → Type 0
IsFaultBefore end fault = IfSome (source_fault_line fault) (λ line. (1 ≤ line) × (line < end))
