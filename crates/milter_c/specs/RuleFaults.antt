-- The numbers and the lines of faults of rule files.
use Rattle.std.specs.Prelude.{◌≤◌, ℕ, ℤ, List, length}
use Rattle.milter_text.specs.Lines.{lines_of}
use Rattle.milter_rules.specs.declared.rule_fault.RuleFault.{RuleFault}
use Rattle.milter_rules.specs.declared.rule_fault.RuleFault.TheVariants as faults
use Rattle.milter_c_objects.specs.declared.status.TheConstants as status

abbrev pub rule_fault_number : RuleFault → ℤ
rule_fault_number (faults.UnknownWord line) = status.RULES_UNKNOWN_WORD
rule_fault_number (faults.BadStage line) = status.RULES_BAD_STAGE
rule_fault_number (faults.BadCondition line) = status.RULES_BAD_CONDITION
rule_fault_number (faults.BadAction line) = status.RULES_BAD_ACTION
rule_fault_number (faults.ActionNotHere line) = status.RULES_ACTION_NOT_HERE
rule_fault_number (faults.TooLarge line) = status.RULES_TOO_LARGE
rule_fault_number faults.NoMemory = status.RULES_NO_MEMORY
rule_fault_number (faults.BadList line) = status.RULES_BAD_LIST

-- the number of a line, from 1
abbrev pub IsLineOf : List ℕ → ℕ → Type 0
IsLineOf text line = (1 ≤ line) × (line ≤ length (lines_of text))
