use Rattle.std.proofs.Common.{◌∙◌, ap, subst, sym}
use Rattle.milter_rules.specs.RuleFault.{rule_fault_line}
use Rattle.milter_cli.specs.declared.file_error.FileError.{FileError}
use Rattle.milter_cli.specs.declared.file_error.InputFile.TheVariants.{Rules}
use Rattle.milter_cli.specs.FileRun.{IsFaultOrMemory}
use Rattle.milter_cli.specs.UsedRules.{IsFileWith}
use Rattle.milter_cli.proofs.FileLaws.{fault_or_memory}
use Rattle.milter_cli.proofs.rules_run.rules_of.Goals as goal

pub returns-in-Err-clause-error : goal.returns-in-Err-clause-error
returns-in-Err-clause-error c =
    let files = c.args.lists.now in
    let reason = fault_or_memory (IsFileWith files) c.args.bytes.now Rules c.line.result c.number.result
    (λ set is. c.line.ensures ∙ ap rule_fault_line (c.in-Err.ensures.only set is.is_file is.can_be)) in
    subst (λ (e : FileError). IsFaultOrMemory (IsFileWith files) c.args.bytes.now e) (sym c.fault_error.ensures) reason
