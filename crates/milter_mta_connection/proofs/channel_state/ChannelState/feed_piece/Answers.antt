use Rattle.std.proofs.Common.{◌<◌, ℕ, List, Err, [], drop, length, length-drop, arith, subst, sym, ap, ◌∙◌}
use Rattle.std.proofs.lemmas.List.{take_rest}
use Rattle.milter_mta_connection.specs.declared.channel_state.ChannelState.{ChannelState}
use Rattle.milter_mta_connection.specs.declared.filter_event.FilterEvent.{FilterEvent}
use Rattle.milter_mta_connection.specs.ChannelParts.{LeavesPrefix, channel_of}
use Rattle.milter_mta_connection.specs.Received.{ended, goes_on}
use Rattle.milter_mta_connection.proofs.FedPieces.{receives-early, receives-lost, received-more}
use Rattle.milter_mta_connection.proofs.channel_state.ChannelState.feed_piece.Goals as goal

pub returns-then-not-is_expecting-clause-receives : goal.returns-then-not-is_expecting-clause-receives
returns-then-not-is_expecting-clause-receives c =
    let left : 0 < length (drop c.loop-taken.taken c.args.piece.now) = omega (arith, length-drop c.loop-taken.taken c.args.piece.now, c.loop-taken-test.true) in
    receives-early (channel_of c.args.self.now [] c.args.splitter.now) (channel_of c.loop-taken.self [] c.loop-taken.splitter) c.loop-taken.event
    c.args.piece.now c.loop-taken.taken c.loop-taken.invariant.received_so_far (sym c.is_expecting.ensures ∙ c.if-not-is_expecting.true) left

pub loop-taken-preserved : goal.loop-taken-preserved
loop-taken-preserved c =
    let piece = c.args.piece.now in
    let i = c.loop-taken.taken in
    let within = rw (take_rest piece i) at c.in-Ok.ensures.taken in
    record {
      within = omega (arith, within.1, length-drop i piece, c.loop-taken-test.true);
      unfinished = c.in-Ok.ensures.unfinished;
      received_so_far =
          received-more (channel_of c.args.self.now [] c.args.splitter.now) (channel_of c.loop-taken.self [] c.loop-taken.splitter) c.loop-taken.event
          piece i c.loop-taken.invariant.received_so_far c.in-Ok.prefix.count _ (rw (take_rest piece i) at (c.in-Ok.ensures.leaves c.loop-taken.event))
          ∙ ap (λ (h : FilterEvent). goes_on h (channel_of c.feed_prefix.new.self [] c.feed_prefix.new.splitter)) (sym c.latest-event.ensures);
    }

pub returns-in-Err-clause-receives : goal.returns-in-Err-clause-receives
returns-in-Err-clause-receives c =
    let piece = c.args.piece.now in
    let i = c.loop-taken.taken in
    receives-lost (channel_of c.args.self.now [] c.args.splitter.now) (channel_of c.loop-taken.self [] c.loop-taken.splitter) c.loop-taken.event
    piece i c.loop-taken.invariant.received_so_far (ended c.loop-taken.event (channel_of c.feed_prefix.new.self [] c.feed_prefix.new.splitter)) c.in-Err.loss c.loop-taken-test.true
    (sym c.is_expecting.ensures ∙ c.if-not-is_expecting.false)
    (ap (λ (s : ChannelState). ended c.loop-taken.event (channel_of s [] [])) c.in-Err.ensures.kept)
    (subst (λ (p : List ℕ). LeavesPrefix c.loop-taken.event (channel_of c.loop-taken.self [] c.loop-taken.splitter) p (channel_of c.loop-taken.self [] c.loop-taken.splitter) (Err c.in-Err.loss))
    (take_rest piece i) (c.in-Err.ensures.leaves c.loop-taken.event))
