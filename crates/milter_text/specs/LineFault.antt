-- The line that a fault of a file of words is at.
use Rattle.std.specs.Prelude.{◌≡◌, ℕ, ◌≤◌, ◌<◌, IfSome, Option, None, Some}
use Rattle.milter_text.specs.declared.line_fault.LineFault.{LineFault}
use Rattle.milter_text.specs.declared.line_fault.LineFault.TheVariants.{NotInWords, NoMemory}

abbrev pub line_fault_line : LineFault → Option ℕ
line_fault_line (NotInWords n) = Some n
line_fault_line NoMemory = None

-- the fault is of a line from 1 to the one before this, unless it is NoMemory
abbrev pub IsBefore : ℕ → LineFault → Type 0
IsBefore end fault = IfSome (line_fault_line fault) (λ line. (1 ≤ line) × (line < end))

-- the fault is of the line with this number, unless it is NoMemory
abbrev pub IsAt : ℕ → LineFault → Type 0
IsAt number fault = IfSome (line_fault_line fault) (λ line. line ≡ number)
