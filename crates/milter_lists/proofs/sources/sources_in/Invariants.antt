use Rattle.std.specs.Prelude.{[], ◌≤◌, length}
use Rattle.milter_lists.specs.ListLines.{HasSources}
use Rattle.milter_lists.proofs.SourceLines.{OnlySoFar}
use Rattle.milter_lists.proofs.sources.sources_in.Given as goal

-- the lines before those that are left give the sources
abbrev pub invariant-loop-sources : goal.invariant-loop-sources
invariant-loop-sources l = record {
  found : HasSources [] l.sources l.fn.lines.lines l.lines.lines;
  only : OnlySoFar l.fn.lines.lines l.lines.lines l.sources;
  end : l.lines.end ≤ l.fn.lines.end;
}

abbrev pub decreases-loop-sources : goal.decreases-loop-sources
decreases-loop-sources l = length l.lines.lines
