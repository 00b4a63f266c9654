use Rattle.std.proofs.Common.{◌≡◌, [], length}
use Rattle.milter_trace.specs.PrinterState.{printer_state}
use Rattle.milter_trace.specs.AssemblerState.{IsBetweenPieces}
use Rattle.milter_trace.proofs.RunLaws.{ReadCount, RunProgress}
use Rattle.milter_trace.proofs.trace.run.Given as goal

-- what was read so far is counted and traced, and all that it prints was written
abbrev pub invariant-loop-turn : goal.invariant-loop-turn
invariant-loop-turn g l = record {
  traced : RunProgress l.initial.assembler.printer.form (g.R.Read.remaining l.initial.reader) (g.R.Read.remaining l.reader) (g.W.Write.contents l.initial.writer) (g.W.Write.contents l.writer)
      (printer_state l.assembler.printer) l.assembler.begun.items;
  with_line_counted : ReadCount (g.R.Read.remaining l.initial.reader) (g.R.Read.remaining l.reader) l._turn l.assembler.printer.lines;
  between_pieces : IsBetweenPieces l.assembler;
  written : l.assembler.printer.text.items ≡ [];
  room : length l.room ≡ 65536;
}
