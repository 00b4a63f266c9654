use Rattle.std.proofs.Common.{◌≡◌, ◌+◌, ◌++◌, ◌≤◌, length}
use Rattle.milter_text.specs.Lines.{lines_of}
use Rattle.milter_trace.specs.declared.direction.Direction.TheVariants.{ToFilter}
use Rattle.milter_trace.specs.Trace.{stream}
use Rattle.milter_replay.specs.ReadExchanges.{IsBetweenLines, bytes_so_far}
use Rattle.milter_replay.proofs.trace_reader.read_trace.Given as goal

abbrev pub invariant-loop-end : goal.invariant-loop-end
invariant-loop-end l = record {
  between : IsBetweenLines l.reader;
  few : l.number + length l.rest ≤ length l.bytes;
  read : bytes_so_far l.reader ++ stream ToFilter (lines_of l.rest) ≡ stream ToFilter (lines_of l.bytes);
}

abbrev pub decreases-loop-end : goal.decreases-loop-end
decreases-loop-end l = length l.rest
