use Rattle.std.proofs.Common.{◌≡◌, Err}
use Rattle.milter_trace.specs.declared.fault.TraceFault.TheVariants.{NoMemory}
use Rattle.milter_trace.proofs.WriteLaws.{AppendsTrace-ends}
use Rattle.milter_trace.proofs.trace.print_end.Goals as goal

pub returns-clause-ends : goal.returns-clause-ends
returns-clause-ends g c =
    let some : ¬ (c.print_last-outcome.result ≡ Err NoMemory) = λ e. let t = c.is_memory.ensures.1 e in cc (t, c.if-is_memory.false) in
    AppendsTrace-ends _ c.print_last-outcome.new.self.printer.text.items c.print_last-outcome.result _ _ (rw c.requires.written at c.print_last-outcome.ensures) some (rw c.text.ensures at c.in_ok-write_output.ensures.ok)
