use Rattle.std.proofs.Common.{◌≤◌, length}
use Rattle.milter_mail_file.proofs.LineRuns.{ReadSoFar}
use Rattle.milter_mail_file.proofs.line_group.read_group.Given as goal

-- the lines before those that are left have the values that the group is made of
abbrev pub invariant-loop-group : goal.invariant-loop-group
invariant-loop-group g l = record {
  read : ReadSoFar g.G.LineGroup.value_of g.G.LineGroup.IsMadeOf l.fn.lines.lines l.group l.lines.lines;
  end : l.lines.end ≤ l.fn.lines.end;
}

abbrev pub decreases-loop-group : goal.decreases-loop-group
decreases-loop-group g l = length l.lines.lines
