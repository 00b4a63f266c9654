-- A line assembler between two pieces of the input.
use Rattle.std.specs.Prelude.{◌≡◌, ◌≤◌, [], length}
use Rattle.milter_trace.specs.declared.form.TraceForm.{TraceForm}
use Rattle.milter_trace.specs.declared.line_assembler.LineAssembler.{LineAssembler}
use Rattle.milter_trace.specs.declared.trace_line.TheConstants.{LINE_MAX}
use Rattle.milter_trace.specs.PrinterState.{HasUnfinishedStreams, printer_state}
use Rattle.milter_trace.specs.TraceState.{HasNoLf, initial_state}

-- the line that has begun has no LF and isn't too long, and neither direction has a whole packet
pub record IsBetweenPieces (t : LineAssembler) : Type 0 where
  pub begun : HasNoLf t.begun.items
  pub short : length t.begun.items ≤ LINE_MAX
  pub unfinished : HasUnfinishedStreams t.printer

-- a line assembler of this form before the first byte
pub record IsInitial (form : TraceForm) (t : LineAssembler) : Type 0 where
  pub between_pieces : IsBetweenPieces t
  pub begun : t.begun.items ≡ []
  pub text : t.printer.text.items ≡ []
  pub state : printer_state t.printer ≡ initial_state form
