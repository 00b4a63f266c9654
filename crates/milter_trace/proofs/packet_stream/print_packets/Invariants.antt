use Rattle.std.proofs.Common.{◌++◌, length}
use Rattle.milter_fields.specs.Stream.{IsUnfinished}
use Rattle.milter_trace.proofs.PacketLaws.{PrintProgress}
use Rattle.milter_trace.proofs.packet_stream.print_packets.Given as goal

abbrev pub invariant-loop-rest : goal.invariant-loop-rest
invariant-loop-rest l = record {
  printing : PrintProgress l.form l.line l.direction l.fn.text.items (l.fn.splitter ++ l.bytes) l.text.items (l.splitter ++ l.rest);
  unfinished : IsUnfinished l.splitter;
}

abbrev pub decreases-loop-rest : goal.decreases-loop-rest
decreases-loop-rest l = length l.rest
