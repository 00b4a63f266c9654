use Rattle.std.proofs.Common.{◌<◌, ℕ, length, take, sym, ap, subst, arith}
use Rattle.std.proofs.lemmas.Grind.{common_steps}
use Rattle.std.proofs.lemmas.List.{length-take}
use Rattle.std.proofs.lemmas.Result.{IfErr-weaker, err_from_is_err_and}
use Rattle.milter_trace.specs.declared.fault.TraceFault.{TraceFault}
use Rattle.milter_trace.specs.PrinterState.{printer_state}
use Rattle.milter_trace.specs.TraceState.{TraceState}
use Rattle.milter_trace.proofs.RunLaws.{ReadCount, ReadCount-more, ReadCount-none, RunProgress-end, RunProgress-more, RunProgress-none, RunProgress-stops}
use Rattle.milter_trace.proofs.trace.run.Goals as goal

pub loop-turn-init : goal.loop-turn-init
loop-turn-init g c =
    let initial = c.requires.initial in
    let none = ap (λ (h : TraceState). h.lines) initial.state in
    record {
      traced = rw (initial.state, initial.begun) (RunProgress-none _ _ _);
      with_line_counted = subst (λ (n : ℕ). ReadCount (g.R.Read.remaining c.args.reader.now) (g.R.Read.remaining c.args.reader.now) 0 n) (sym none) (ReadCount-none (g.R.Read.remaining c.args.reader.now));
      between_pieces = initial.between_pieces;
      written = initial.text;
      room = c.requires.room;
    }

pub returns-then-count-eq0-clause-begun : goal.returns-then-count-eq0-clause-begun
returns-then-count-eq0-clause-begun g c =
    let read = rw c.if-count-eq0.true at c.in-Ok.ensures.bytes in
    let room : 0 < length c.read.new.buf = omega (arith, c.read.auto.buf, c.loop-turn.invariant.room) in
    let ends = RunProgress-end _ _ _ _ _ _ _ (printer_state c.loop-turn.assembler.printer) c.loop-turn.assembler.begun.items c.print_end.result c.loop-turn.invariant.traced read.0 (c.in-Ok.ensures.bytes.1 c.if-count-eq0.true room) c.print_end.ensures.ends in
    IfErr-weaker c.print_end.result _ _ (λ (e : TraceFault) h. h.begun) ends.1

pub returns-in_err-print_piece-clause-begun : goal.returns-in_err-print_piece-clause-begun
returns-in_err-print_piece-clause-begun g c =
    let p = err_from_is_err_and c.from_residual.result c.from_residual.ensures.1 in
    rw p.1 (RunProgress-stops _ _ _ _ _ _ _ (printer_state c.loop-turn.assembler.printer) c.loop-turn.assembler.begun.items (take c.in-Ok.count c.read.new.buf) c.in_err-print_piece.field-0.0
    c.loop-turn.invariant.traced c.in-Ok.ensures.bytes.0 c.in_err-print_piece.ensures.stops).begun

pub loop-turn-preserved : goal.loop-turn-preserved
loop-turn-preserved g c =
    let went = c.in_ok-print_piece.ensures in
    let goes = went.goes_on in
    let len = length-take c.in-Ok.count c.read.new.buf in
    record {
      traced = RunProgress-more _ _ _ _ _ _ _ (printer_state c.loop-turn.assembler.printer) _ c.loop-turn.assembler.begun.items _ (take c.in-Ok.count c.read.new.buf) goes.0 c.loop-turn.invariant.traced c.in-Ok.ensures.bytes.0 goes.1 goes.2;
      with_line_counted = ReadCount-more _ _ _ c.loop-turn._turn c.loop-turn.assembler.printer.lines c.print_piece.new.assembler.printer.lines (take c.in-Ok.count c.read.new.buf) c.loop-turn.invariant.with_line_counted c.in-Ok.ensures.bytes.0
          (omega (arith, len)) (omega (arith, len, c.read.auto.buf, c.loop-turn.invariant.room)) went.few;
      between_pieces = went.between_pieces;
      written = went.written;
      room = omega (arith, c.read.auto.buf, c.loop-turn.invariant.room);
    }

pub returns-clause-long_input : goal.returns-clause-long_input
returns-clause-long_input g c = grind (arith, common_steps)
