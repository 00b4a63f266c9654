use Rattle.std.proofs.Common.{ap, ◌∙◌}
use Rattle.milter_mail_file.specs.SessionFault.{session_fault_line}
use Rattle.milter_mail_file.specs.SessionFile.{IsSessionFile}
use Rattle.milter_cli.specs.declared.file_error.InputFile.TheVariants.{Session}
use Rattle.milter_cli.proofs.FileLaws.{fault_error-none, has_none}
use Rattle.milter_cli.proofs.session_run.load_session.Goals as goal

pub returns-clause-fault : goal.returns-clause-fault
returns-clause-fault g c =
    λ h. has_none IsSessionFile (g.R.Read.remaining c.args.reader) c.in_ok-file.file.items c.in_ok-file.ensures.bytes
    (λ s read. (let none = rw c.as_slice.ensures.value at (c.in-Err.ensures.only s) in
    fault_error-none Session c.line.result c.number.result (rw c.fault_error.ensures at h) (c.line.ensures ∙ ap session_fault_line (none read))))
