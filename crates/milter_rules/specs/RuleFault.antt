-- The faults of a rule file.
use Rattle.std.specs.Prelude.{◌≡◌, ℕ, ◌≤◌, ◌<◌, IfSome, Option, None, Some}
use Rattle.milter_text.specs.declared.line_fault.LineFault.{LineFault}
use Rattle.milter_text.specs.declared.line_fault.LineFault.TheVariants as line_faults
use Rattle.milter_lists.specs.declared.source_fault.SourceFault.{SourceFault}
use Rattle.milter_lists.specs.declared.source_fault.SourceFault.TheVariants as source_faults
use Rattle.milter_rules.specs.declared.rule_fault.RuleFault.{RuleFault}
use Rattle.milter_rules.specs.declared.rule_fault.RuleFault.TheVariants.{UnknownWord, BadStage, BadCondition, BadAction}
use Rattle.milter_rules.specs.declared.rule_fault.RuleFault.TheVariants.{ActionNotHere, TooLarge, NoMemory, BadList}

abbrev pub rule_fault_number : RuleFault → ℕ
rule_fault_number (UnknownWord n) = 1
rule_fault_number (BadStage n) = 2
rule_fault_number (BadCondition n) = 3
rule_fault_number (BadAction n) = 4
rule_fault_number (ActionNotHere n) = 5
rule_fault_number (TooLarge n) = 6
rule_fault_number NoMemory = 7
rule_fault_number (BadList n) = 8

abbrev pub rule_fault_line : RuleFault → Option ℕ
rule_fault_line (UnknownWord n) = Some n
rule_fault_line (BadStage n) = Some n
rule_fault_line (BadCondition n) = Some n
rule_fault_line (BadAction n) = Some n
rule_fault_line (ActionNotHere n) = Some n
rule_fault_line (TooLarge n) = Some n
rule_fault_line NoMemory = None
rule_fault_line (BadList n) = Some n

-- a line that is not in words has an unknown word
abbrev pub of_line_fault : LineFault → RuleFault
of_line_fault (line_faults.NotInWords n) = UnknownWord n
of_line_fault line_faults.NoMemory = NoMemory

-- the same fault of a line of a list
abbrev pub of_source_fault : SourceFault → RuleFault
of_source_fault (source_faults.UnknownWord n) = UnknownWord n
of_source_fault (source_faults.TooLarge n) = TooLarge n
of_source_fault source_faults.NoMemory = NoMemory

-- the fault is of a line from 1 to this one, unless it is NoMemory
abbrev pub IsWithin : ℕ → RuleFault → Type 0
IsWithin last fault = IfSome (rule_fault_line fault) (λ line. (1 ≤ line) × (line ≤ last))

-- the fault is of the line with this number, unless it is NoMemory
abbrev pub IsAt : ℕ → RuleFault → Type 0
IsAt number fault = IfSome (rule_fault_line fault) (λ line. line ≡ number)

-- the fault is of a line from 1 to the one before this, unless it is NoMemory
abbrev pub IsBefore : ℕ → RuleFault → Type 0
IsBefore end fault = IfSome (rule_fault_line fault) (λ line. (1 ≤ line) × (line < end))
