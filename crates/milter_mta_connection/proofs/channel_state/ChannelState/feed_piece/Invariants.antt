use Rattle.std.proofs.Common.{◌≡◌, ◌≤◌, ◌-◌, [], length, take}
use Rattle.milter_fields.specs.Stream.{IsUnfinished}
use Rattle.milter_mta_connection.specs.ChannelParts.{channel_of}
use Rattle.milter_mta_connection.specs.Received.{goes_on, received}
use Rattle.milter_mta_connection.proofs.channel_state.ChannelState.feed_piece.Given as goal

abbrev pub invariant-loop-taken : goal.invariant-loop-taken
invariant-loop-taken l = record {
  within : l.taken ≤ length l.piece;
  unfinished : IsUnfinished l.splitter;
  received_so_far : received (channel_of l.fn.self [] l.fn.splitter) (take l.taken l.piece)
      ≡ goes_on l.event (channel_of l.self [] l.splitter);
}

abbrev pub decreases-loop-taken : goal.decreases-loop-taken
decreases-loop-taken l = length l.piece - l.taken
