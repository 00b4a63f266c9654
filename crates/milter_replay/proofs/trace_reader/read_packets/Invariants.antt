use Rattle.std.proofs.Common.{◌≡◌, ◌++◌, length}
use Rattle.milter_fields.specs.Stream.{IsUnfinished}
use Rattle.milter_trace.specs.declared.direction.Direction.TheVariants.{ToFilter}
use Rattle.milter_trace.specs.Trace.{bytes_if}
use Rattle.milter_replay.specs.ReadExchanges.{HasFitting, read_bytes}
use Rattle.milter_replay.proofs.trace_reader.read_packets.Given as goal

abbrev pub invariant-loop-rest : goal.invariant-loop-rest
invariant-loop-rest l = record {
  unfinished : IsUnfinished l.splitter;
  fitting : HasFitting l.exchanges;
  bytes : read_bytes l.exchanges ++ bytes_if ToFilter l.direction (l.splitter ++ l.rest)
      ≡ read_bytes l.fn.exchanges ++ bytes_if ToFilter l.direction (l.fn.splitter ++ l.bytes);
}

abbrev pub decreases-loop-rest : goal.decreases-loop-rest
decreases-loop-rest l = length l.rest
