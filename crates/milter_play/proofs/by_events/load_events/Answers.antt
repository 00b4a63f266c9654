use Rattle.std.proofs.Common.{ap, ◌∙◌}
use Rattle.milter_world.specs.EventFault.{event_fault_line}
use Rattle.milter_world.specs.EventFile.{IsEventFile}
use Rattle.milter_cli.specs.declared.file_error.InputFile.TheVariants.{Events}
use Rattle.milter_cli.proofs.FileLaws.{fault_error-none, has_none}
use Rattle.milter_play.proofs.by_events.load_events.Goals as goal

pub returns-clause-fault : goal.returns-clause-fault
returns-clause-fault g c =
    λ h. has_none IsEventFile (g.R.Read.remaining c.args.reader) c.in_ok-file.file.items c.in_ok-file.ensures.bytes
    (λ events read. (let none = rw c.as_slice.ensures.value at (c.in-Err.ensures.only events) in
    fault_error-none Events c.line.result c.number.result (rw c.fault_error.ensures at h) (c.line.ensures ∙ ap event_fault_line (none read))))
