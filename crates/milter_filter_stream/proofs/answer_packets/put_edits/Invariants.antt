use Rattle.std.proofs.Common.{◌≡◌, ◌++◌}
use Rattle.milter_filter_stream.proofs.EditPackets.{edit_bytes}
use Rattle.milter_filter_stream.proofs.answer_packets.put_edits.Given as goal

-- the packets of the edits so far
abbrev pub invariant-loop-edit : goal.invariant-loop-edit
invariant-loop-edit l = l.out.items ≡ l.fn.out.items ++ edit_bytes l.fn.negotiated l.yielded
