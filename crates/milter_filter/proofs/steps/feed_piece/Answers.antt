use Rattle.std.proofs.Common.{◌≢◌, ◌++◌, drop, length-drop, arith, subst, sym, ◌∙◌}
use Rattle.std.proofs.lemmas.List.{drop-drop, take_rest}
use Rattle.milter_protocol.specs.declared.filter_fault.FilterFault.TheVariants.{NoMemory}
use Rattle.milter_filter_stream.specs.declared.filter_stream.NextStep.TheVariants.{Feed}
use Rattle.milter_filter_stream.specs.Conversations.{GivesUpIn, TakesIn, next_step}
use Rattle.milter_filter_stream.specs.Streams.{received_in}
use Rattle.milter_filter.specs.declared.turn.Served.TheVariants.{Failed}
use Rattle.milter_filter.specs.Connections.{EndsBy, GoesBy, Stops, connected}
use Rattle.milter_filter.proofs.Taken.{given_up-by, nothing-by, step-feed, taken-by, taken-serves, taken-stops}
use Rattle.milter_filter.proofs.Turns.{by-joins, ends-by}
use Rattle.milter_filter.proofs.steps.feed_piece.Goals as goal

pub loop-taken-init : goal.loop-taken-init
loop-taken-init g c = record {
  within = omega arith;
  goes = λ rest. nothing-by c.args.filter.now c.args.piece.now rest (g.W.Write.contents c.args.writer.now) c.requires.serving;
  serving = c.requires.serving;
  taking = c.requires.taking;
  nothing_pending = c.requires.nothing_pending;
}

pub returns-in-Err-clause-ends : goal.returns-in-Err-clause-ends
returns-in-Err-clause-ends g c = λ rest.
    let i = c.loop-taken.taken in
    let piece = c.args.piece.now in
    let filter = c.loop-taken.filter in
    let inv = c.loop-taken.invariant in
    let w = g.W.Write.contents c.args.writer.now in
    let v = g.W.Write.contents c.loop-taken.writer in
    let cause : c.in-Err.fault ≢ NoMemory → GivesUpIn filter.wanted filter.state (received_in (filter.unread ++ drop i piece)) c.in-Err.fault =
    λ other. rw (take_rest piece i) at (c.in-Err.ensures.cause inv.taking inv.nothing_pending other) in
    ends-by (connected c.args.filter.now piece) (connected filter (drop i piece)) rest rest rest w v v (inv.goes rest) inv.serving.serving (Failed c.in-Err.fault)
    (given_up-by filter (drop i piece) rest inv.serving inv.taking inv.nothing_pending c.in-Err.fault v cause)

pub returns-in-Err-write_pending-clause-ends : goal.returns-in-Err-write_pending-clause-ends
returns-in-Err-write_pending-clause-ends g c = λ rest.
    let i = c.loop-taken.taken in
    let n = c.in-Ok.count in
    let piece = c.args.piece.now in
    let filter = c.loop-taken.filter in
    let new = c.write_pending.new.filter in
    let inv = c.loop-taken.invariant in
    let w = g.W.Write.contents c.args.writer.now in
    let v = g.W.Write.contents c.loop-taken.writer in
    let u = g.W.Write.contents c.write_pending.new.writer in
    let takes = rw (take_rest piece i) at (c.in-Ok.ensures.takes inv.taking inv.nothing_pending) in
    let more = taken-by filter (drop i piece) rest inv.serving inv.taking inv.nothing_pending c.feed.new.self new n v u takes c.in-Err-write_pending.ensures.rest c.in-Err-write_pending.ensures.writes in
    let all = by-joins (connected c.args.filter.now piece) (connected filter (drop i piece)) rest rest rest w v u (inv.goes rest) inv.serving.serving (connected new (drop n (drop i piece))) more in
    subst (EndsBy (connected c.args.filter.now piece) rest rest w u) (sym c.in-Err-write_pending.ensures.fault) (all.0, (connected new (drop n (drop i piece)), all.1))

pub loop-taken-preserved : goal.loop-taken-preserved
loop-taken-preserved g c =
    let i = c.loop-taken.taken in
    let n = c.in-Ok.count in
    let piece = c.args.piece.now in
    let filter = c.loop-taken.filter in
    let new = c.write_pending.new.filter in
    let inv = c.loop-taken.invariant in
    let w = g.W.Write.contents c.args.writer.now in
    let v = g.W.Write.contents c.loop-taken.writer in
    let u = g.W.Write.contents c.write_pending.new.writer in
    let takes : TakesIn filter (drop i piece) n c.feed.new.self = rw (take_rest piece i) at (c.in-Ok.ensures.takes inv.taking inv.nothing_pending) in
    let rest_is = c.in_default.ensures.rest in
    let writes = c.in_default.ensures.writes in
    let feeds = step-feed new.pending new.state.asked new.state.order_state.state (sym c.next_step.ensures ∙ c.in-Feed.is) in
    record {
      within = let m = takes.within in omega (arith, m, inv.within, length-drop i piece);
      goes = λ rest.
          let more = taken-by filter (drop i piece) rest inv.serving inv.taking inv.nothing_pending c.feed.new.self new n v u takes rest_is writes in
          let all = by-joins (connected c.args.filter.now piece) (connected filter (drop i piece)) rest rest rest w v u (inv.goes rest) inv.serving.serving (connected new (drop n (drop i piece))) more in
          subst (λ left. GoesBy (connected c.args.filter.now piece) rest rest w u (connected new left)) (drop-drop n i piece) all;
      serving = taken-serves filter c.feed.new.self new (drop i piece) n v u takes rest_is writes feeds.2;
      taking = record { serving = feeds.2; unasked = feeds.1 };
      nothing_pending = feeds.0;
    }

pub returns-in_default-next_step : goal.returns-in_default-next_step
returns-in_default-next_step g c =
    let i = c.loop-taken.taken in
    let n = c.in-Ok.count in
    let piece = c.args.piece.now in
    let filter = c.loop-taken.filter in
    let new = c.write_pending.new.filter in
    let inv = c.loop-taken.invariant in
    let w = g.W.Write.contents c.args.writer.now in
    let v = g.W.Write.contents c.loop-taken.writer in
    let u = g.W.Write.contents c.write_pending.new.writer in
    let takes : TakesIn filter (drop i piece) n c.feed.new.self = rw (take_rest piece i) at (c.in-Ok.ensures.takes inv.taking inv.nothing_pending) in
    let rest_is = c.in_default.ensures.rest in
    let writes = c.in_default.ensures.writes in
    let other : next_step new.pending new.state.asked new.state.order_state.state ≢ Feed = λ is. c.in_default-next_step.not-Feed (c.next_step.ensures ∙ is) in
    record {
      within = let m = takes.within in omega (arith, m, inv.within, length-drop i piece);
      goes = λ rest.
          let more = taken-by filter (drop i piece) rest inv.serving inv.taking inv.nothing_pending c.feed.new.self new n v u takes rest_is writes in
          let all = by-joins (connected c.args.filter.now piece) (connected filter (drop i piece)) rest rest rest w v u (inv.goes rest) inv.serving.serving (connected new (drop n (drop i piece))) more in
          subst (λ left. GoesBy (connected c.args.filter.now piece) rest rest w u (connected new left)) (drop-drop n i piece) all;
      stops = subst (Stops new) (drop-drop n i piece) (taken-stops filter c.feed.new.self new (drop i piece) n v u takes rest_is writes other);
      ends = tt;
    }
