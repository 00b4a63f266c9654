use Rattle.std.proofs.Common.{arith}
use Rattle.std.proofs.lemmas.Result.{err_from_is_err_and}
use Rattle.milter_world.proofs.LineRuns.{line_at_fault, read_more}
use Rattle.milter_world.proofs.event_file.read_lines.Goals as goal

pub returns-in_err-add_line-clause-fault : goal.returns-in_err-add_line-clause-fault
returns-in_err-add_line-clause-fault c =
    let next = rw c.in-Some.is at c.in_ok-line.ensures.found in
    let p = err_from_is_err_and c.from_residual-in_err-add_line.result c.from_residual-in_err-add_line.ensures.1 in
    rw (p.1, p.2)
    (line_at_fault c.args.lines.now.lines c.loop-events.lines c.in-Some.line.number c.in-Some.line.words.items
    c.next.new.self c.loop-events.events.items c.in_err-add_line.field-0.0 c.loop-events.invariant.read next
    c.in_err-add_line.ensures.fault)

pub loop-events-preserved : goal.loop-events-preserved
loop-events-preserved c =
    let next = rw c.in-Some.is at c.in_ok-line.ensures.found in
    record {
      read = read_more c.args.lines.now.lines c.loop-events.lines c.in-Some.line.number c.in-Some.line.words.items
          c.next.new.self c.loop-events.events.items c.add_line.new.events.items c.loop-events.invariant.read next
          c.in_ok-add_line.ensures.done;
      end = omega (arith, c.next.ensures.end, c.loop-events.invariant.end);
    }
