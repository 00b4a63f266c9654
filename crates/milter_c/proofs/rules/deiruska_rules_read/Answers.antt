use Rattle.std.proofs.Common.{◌≡◌, ◌∙◌, [], IsSomeAnd, ap, of_z, subst, sym, to_z, w32, List, ℤ}
use Rattle.std.proofs.lemmas.List.Elements.{All-nil}
use Rattle.milter_lists.specs.declared.sources.ListSource.{ListSource}
use Rattle.milter_rules.specs.declared.list_file.ListFile.{ListFile}
use Rattle.milter_rules.specs.ListFiles.{CanBeList, CanBeRead}
use Rattle.milter_rules.specs.declared.rule_fault.RuleFault.{RuleFault}
use Rattle.milter_rules.specs.declared.rule_fault.RuleFault.TheVariants.{NoMemory}
use Rattle.milter_filter_rules.specs.RulesValue.{rule_set}
use Rattle.milter_c_objects.specs.Objects.{rules_in}
use Rattle.milter_c_objects.specs.declared.status.TheConstants.{RULES_NO_MEMORY}
use Rattle.milter_c.specs.RuleFaults.{rule_fault_number}
use Rattle.milter_c.proofs.rules.deiruska_rules_read.Goals as goal
use Rattle.milter_c.proofs.rules.deiruska_rules_read.Goals.{in-Ok+in-Err-put, in-Err}

-- the number of refused memory
memory_number : (fault : RuleFault) (n : ℤ) → fault ≡ NoMemory → n ≡ rule_fault_number fault → to_z w32 (of_z w32 n) ≡ RULES_NO_MEMORY
memory_number fault n is number = ap (λ m. to_z w32 (of_z w32 m)) (number ∙ ap rule_fault_number is)

-- no lists can be read of any files
no_lists : (files : List ListFile) (sources : List ListSource) → sources ≡ [] → CanBeRead files sources
no_lists files sources is = subst (λ (s : List ListSource). CanBeRead files s) (sym is) (All-nil (CanBeList files))

pub returns-in-Ok-put-clause-only : goal.returns-in-Ok-put-clause-only
returns-in-Ok-put-clause-only c set file none done =
    subst (λ object. IsSomeAnd (rules_in object) (λ it. rule_set it ≡ set)) (sym c.in-Ok-put.ensures.ok)
    (c.in-Ok.ensures.only set file (no_lists _ set.sources none))

pub returns-clause-memory : goal.returns-clause-memory
returns-clause-memory c set file none failed =
    memory_number c.match-read_rules.fault c.rule_fault_number.result
    (elim c.match-read_rules.branch [
      | in-Ok+in-Err-put w ↦ w.fault-is
      | in-Err w ↦ w.fault-is ∙ w.in-Err.ensures.only set file (no_lists _ set.sources none)
    ])
    c.rule_fault_number.ensures
