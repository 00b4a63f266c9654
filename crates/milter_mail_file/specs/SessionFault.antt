-- The faults of a session file.
use Rattle.std.specs.Prelude.{◌≡◌, ℕ, ◌≤◌, IfSome, Option, None, Some, Result, Ok, Err}
use Rattle.milter_text.specs.declared.line_fault.LineFault.{LineFault}
use Rattle.milter_text.specs.declared.line_fault.LineFault.TheVariants as line_faults
use Rattle.milter_mail_file.specs.declared.session_fault.SessionFault.{SessionFault}
use Rattle.milter_mail_file.specs.declared.session_fault.SessionFault.TheVariants.{UnknownLine, BadClient, NoRecipient}
use Rattle.milter_mail_file.specs.declared.session_fault.SessionFault.TheVariants.{BadHeader, NoEnd, TooLarge, Nul}
use Rattle.milter_mail_file.specs.declared.session_fault.SessionFault.TheVariants.{NoMemory}

abbrev pub session_fault_number : SessionFault → ℕ
session_fault_number (UnknownLine n) = 1
session_fault_number (BadClient n) = 2
session_fault_number (NoRecipient n) = 3
session_fault_number (BadHeader n) = 4
session_fault_number (NoEnd n) = 5
session_fault_number (TooLarge n) = 6
session_fault_number (Nul n) = 7
session_fault_number NoMemory = 8

abbrev pub session_fault_line : SessionFault → Option ℕ
session_fault_line (UnknownLine n) = Some n
session_fault_line (BadClient n) = Some n
session_fault_line (NoRecipient n) = Some n
session_fault_line (BadHeader n) = Some n
session_fault_line (NoEnd n) = Some n
session_fault_line (TooLarge n) = Some n
session_fault_line (Nul n) = Some n
session_fault_line NoMemory = None

-- a line that is not in words is an unknown line
abbrev pub of_line_fault : LineFault → SessionFault
of_line_fault (line_faults.NotInWords n) = UnknownLine n
of_line_fault line_faults.NoMemory = NoMemory

-- the fault is of a line from 1 to this one, unless it is NoMemory
abbrev pub IsWithin : ℕ → SessionFault → Type 0
IsWithin last fault = IfSome (session_fault_line fault) (λ line. (1 ≤ line) × (line ≤ last))

-- the fault is of the line with this number, unless it is NoMemory
abbrev pub IsAt : ℕ → SessionFault → Type 0
IsAt number fault = IfSome (session_fault_line fault) (λ line. line ≡ number)

-- a value that was read and is fit, or NoMemory; where there is none, any fault
abbrev pub Reads : {X : Type 0} → Option X → (X → Type 0) → Result X SessionFault → Type 0
Reads value IsFit (Ok x) = (value ≡ Some x) × IsFit x
Reads value IsFit (Err e) = (x : _) → value ≡ Some x → IsFit x → e ≡ NoMemory
