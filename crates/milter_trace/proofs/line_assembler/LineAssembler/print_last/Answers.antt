use Rattle.std.proofs.Common.{Err, sym, ap, ◌∙◌}
use Rattle.std.proofs.lemmas.Result.{err_from_is_err_and}
use Rattle.milter_trace.specs.PrinterState.{printer_state}
use Rattle.milter_trace.proofs.PieceLaws.{last-end, last-fault}
use Rattle.milter_trace.proofs.line_assembler.LineAssembler.print_last.Goals as goal

pub returns-in_err-print_line : goal.returns-in_err-print_line
returns-in_err-print_line c =
    let p = err_from_is_err_and c.from_residual.result c.from_residual.ensures.1 in
    last-fault c.args.self.now.begun.items c.as_slice-last.result.now _ _ (printer_state c.args.self.now.printer) c.in_err-print_line.field-0.0 c.from_residual.result
    c.as_slice-last.ensures.value c.requires.between_pieces.begun (sym c.is_empty.ensures ∙ c.if-is_empty.false) (p.1 ∙ ap (λ e. Err e) p.2) c.in_err-print_line.ensures.appends

pub returns : goal.returns
returns c =
    last-end c.args.self.now.begun.items c.as_slice-last.result.now _ _ (printer_state c.args.self.now.printer) (printer_state c.print_line.new.self) c.end-2.result
    c.as_slice-last.ensures.value c.requires.between_pieces.begun (sym c.is_empty.ensures ∙ c.if-is_empty.false) c.in_ok-print_line.ensures.state c.in_ok-print_line.ensures.appends c.end-2.ensures
