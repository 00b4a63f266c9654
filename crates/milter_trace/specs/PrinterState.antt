-- The state of a printer.
use Rattle.milter_fields.specs.Stream.{IsUnfinished}
use Rattle.milter_trace.specs.declared.trace_printer.TracePrinter.{TracePrinter}
use Rattle.milter_trace.specs.TraceState.{TraceState}

abbrev pub printer_state : TracePrinter → TraceState
printer_state p = record { form = p.form; lines = p.lines; to_filter = p.to_filter; to_mta = p.to_mta }

-- neither direction has a whole packet or a length at fault
pub record HasUnfinishedStreams (p : TracePrinter) : Type 0 where
  pub to_filter : IsUnfinished p.to_filter
  pub to_mta : IsUnfinished p.to_mta
