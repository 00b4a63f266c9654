use Rattle.std.proofs.Common.{◌≤◌, length}
use Rattle.milter_world.proofs.LineRuns.{ReadSoFar}
use Rattle.milter_world.proofs.event_file.read_lines.Given as goal

-- the lines before those that are left have the events so far
abbrev pub invariant-loop-events : goal.invariant-loop-events
invariant-loop-events l = record {
  read : ReadSoFar l.fn.lines.lines l.lines.lines l.events.items;
  end : l.lines.end ≤ l.fn.lines.end;
}

abbrev pub decreases-loop-events : goal.decreases-loop-events
decreases-loop-events l = length l.lines.lines
