use Rattle.std.proofs.Common.{◌≡◌, ℕ, List, [], ◌++◌, Err}
use Rattle.std.proofs.lemmas.Result.{err_from_is_err_and}
use Rattle.milter_text.specs.Lines.{lines_of}
use Rattle.milter_trace.specs.declared.fault.TraceFault.{TraceFault}
use Rattle.milter_trace.specs.declared.fault.TraceFault.TheVariants.{NoMemory}
use Rattle.milter_trace.specs.PrinterState.{printer_state}
use Rattle.milter_trace.specs.TraceState.{trace_to_come, trace_from}
use Rattle.milter_trace.specs.TraceOutput.{EndsWithFault}
use Rattle.milter_trace.proofs.WriteLaws.{ContinuesTrace-no_limit, ContinuesTrace-prefix, ContinuesTrace-going, ContinuesTrace-stops, EndsWithFault-write, each_more}
use Rattle.milter_trace.proofs.trace.print_piece.Goals as goal

pub returns-in_err-write_output-clause-stops : goal.returns-in_err-write_output-clause-stops
returns-in_err-write_output-clause-stops g c =
    let p = err_from_is_err_and c.from_residual.result c.from_residual.ensures.1 in
    let assembler = c.feed-outcome.new.self in
    let some : ¬ (c.feed-outcome.result ≡ Err NoMemory) = λ e. let t = c.is_memory.ensures.1 e in cc (t, c.if-is_memory.false) in
    let before = λ (more : List ℕ). trace_to_come [] (printer_state c.args.assembler.now.printer) c.args.assembler.now.begun.items (c.args.piece.now ++ more) in
    let other = λ (more : List ℕ). trace_from (printer_state assembler.printer) (lines_of (assembler.begun.items ++ more)) in
    let written = rw c.text.ensures at c.in_err-write_output.ensures.err in
    rw (p.1, p.2) (λ more.
    let fed = rw c.requires.written at (c.feed-outcome.ensures.feeds more) in
    EndsWithFault-write (before more) _ _ c.in_err-write_output.field-0.0 written.0 (ContinuesTrace-prefix (before more) (other more) assembler.printer.text.items c.feed-outcome.result _ _ fed some written.1))

pub returns-clause-goes_on : goal.returns-clause-goes_on
returns-clause-goes_on g c =
    let assembler = c.feed-outcome.new.self in
    let before = λ (more : List ℕ). trace_to_come [] (printer_state c.args.assembler.now.printer) c.args.assembler.now.begun.items (c.args.piece.now ++ more) in
    let written = rw c.text.ensures at c.in_ok-write_output.ensures.ok in
    rw (c.clear_text.ensures.state, c.clear_text.ensures.begun)
    (ContinuesTrace-going c.feed-outcome.result assembler.printer.text.items assembler.begun.items (printer_state assembler.printer) before _ _ written (λ more. rw c.requires.written at (c.feed-outcome.ensures.feeds more)))

pub returns-clause-stops : goal.returns-clause-stops
returns-clause-stops g c =
    let assembler = c.feed-outcome.new.self in
    let some : ¬ (c.feed-outcome.result ≡ Err NoMemory) = λ e. let t = c.is_memory.ensures.1 e in cc (t, c.if-is_memory.false) in
    let before = λ (more : List ℕ). trace_to_come [] (printer_state c.args.assembler.now.printer) c.args.assembler.now.begun.items (c.args.piece.now ++ more) in
    let written = rw c.text.ensures at c.in_ok-write_output.ensures.ok in
    each_more c.feed-outcome.result (λ (more : List ℕ) (e : TraceFault). EndsWithFault (before more) _ _ e)
    (λ more. ContinuesTrace-stops (before more) _ assembler.printer.text.items c.feed-outcome.result _ _ (rw c.requires.written at (c.feed-outcome.ensures.feeds more)) some written)

pub returns-clause-no_limit : goal.returns-clause-no_limit
returns-clause-no_limit g c = ContinuesTrace-no_limit _ _ _ c.feed-outcome.result (c.feed-outcome.ensures.feeds [])
