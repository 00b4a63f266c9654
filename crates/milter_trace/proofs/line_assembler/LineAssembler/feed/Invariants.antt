use Rattle.std.proofs.Common.{◌≡◌, ℕ, ◌+◌, ◌≤◌, List, ◌++◌, length}
use Rattle.milter_trace.specs.PrinterState.{printer_state}
use Rattle.milter_trace.specs.TraceState.{trace_to_come}
use Rattle.milter_trace.specs.AssemblerState.{IsBetweenPieces}
use Rattle.milter_trace.proofs.line_assembler.LineAssembler.feed.Given as goal

-- what is left of the piece goes on where the lines so far ended
abbrev pub invariant-loop-end : goal.invariant-loop-end
invariant-loop-end l = record {
  going : (more : List ℕ) → trace_to_come l.self.printer.text.items (printer_state l.self.printer) l.self.begun.items (l.rest ++ more)
      ≡ trace_to_come l.fn.self.printer.text.items (printer_state l.fn.self.printer) l.fn.self.begun.items (l.piece ++ more);
  between_pieces : IsBetweenPieces l.self;
  few : l.self.printer.lines + length l.rest ≤ l.fn.self.printer.lines + length l.piece;
}

abbrev pub decreases-loop-end : goal.decreases-loop-end
decreases-loop-end l = length l.rest
