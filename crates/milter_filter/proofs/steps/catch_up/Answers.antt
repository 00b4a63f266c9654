use Rattle.std.proofs.Common.{◌≢◌, ap, subst, sym, ◌∙◌}
use Rattle.milter_filter_stream.specs.declared.filter_stream.NextStep.TheVariants.{Feed}
use Rattle.milter_filter_stream.specs.Conversations.{Conversation, next_step}
use Rattle.milter_filter.specs.Connections.{EndsBy, connected}
use Rattle.milter_filter.proofs.Taken.{over-ends, stands-asked, stands-turns, waits-stops}
use Rattle.milter_filter.proofs.Turns.{ends-by, if-err, if-ok, sent-by, sent-serves, turns-by}
use Rattle.milter_filter.proofs.steps.catch_up.Goals as goal

pub returns-in-Err-clause-ends : goal.returns-in-Err-clause-ends
returns-in-Err-clause-ends g c = λ rest.
    let new = c.write_pending.new.filter in
    let waiting = c.args.backlog.now in
    let w = g.W.Write.contents c.args.writer.now in
    let v = g.W.Write.contents c.write_pending.new.writer in
    let goes = sent-by c.args.filter.now new waiting rest w v c.requires c.in-Err.ensures.rest c.in-Err.ensures.writes in
    subst (EndsBy (connected c.args.filter.now waiting) rest rest w v) (sym c.in-Err.ensures.fault) (goes.0, (connected new waiting, goes.1))

pub returns-in-Feed-clause-turns : goal.returns-in-Feed-clause-turns
returns-in-Feed-clause-turns g c =
    let filter = c.args.filter.now in
    let mid = c.write_pending.new.filter in
    let waiting = c.args.backlog.now in
    let new = connected c.feed_backlog.new.filter c.feed_backlog.new.backlog in
    let w = g.W.Write.contents c.args.writer.now in
    let v = g.W.Write.contents c.write_pending.new.writer in
    let u = g.W.Write.contents c.feed_backlog.new.writer in
    let is = c.in_default.ensures.rest in
    let writes = c.in_default.ensures.writes in
    let serving = (sent-serves filter mid c.requires is).serving in
    if-ok c.feed_backlog.result _ _
    (λ turn turns rest. turns-by (connected filter waiting) (connected mid waiting) rest rest rest w v u (sent-by filter mid waiting rest w v c.requires is writes) serving new turn (turns rest))
    c.feed_backlog.ensures.turns

pub returns-in-Feed-clause-ends : goal.returns-in-Feed-clause-ends
returns-in-Feed-clause-ends g c =
    let filter = c.args.filter.now in
    let mid = c.write_pending.new.filter in
    let waiting = c.args.backlog.now in
    let w = g.W.Write.contents c.args.writer.now in
    let v = g.W.Write.contents c.write_pending.new.writer in
    let u = g.W.Write.contents c.feed_backlog.new.writer in
    let is = c.in_default.ensures.rest in
    let writes = c.in_default.ensures.writes in
    let serving = (sent-serves filter mid c.requires is).serving in
    if-err c.feed_backlog.result _ _
    (λ end ends rest. ends-by (connected filter waiting) (connected mid waiting) rest rest rest w v u (sent-by filter mid waiting rest w v c.requires is writes) serving end (ends rest))
    c.feed_backlog.ensures.ends

pub returns-in_default-next_step : goal.returns-in_default-next_step
returns-in_default-next_step g c =
    let filter = c.args.filter.now in
    let new = c.write_pending.new.filter in
    let waiting = c.args.backlog.now in
    let old = connected filter waiting in
    let w = g.W.Write.contents c.args.writer.now in
    let v = g.W.Write.contents c.write_pending.new.writer in
    let is = c.in_default.ensures.rest in
    let writes = c.in_default.ensures.writes in
    let serving = (sent-serves filter new c.requires is).serving in
    let other : next_step new.pending new.state.asked new.state.order_state.state ≢ Feed = λ is. c.in_default-next_step.not-Feed (c.next_step.ensures ∙ is) in
    let stops = waits-stops new waiting serving other in
    let same = ap (λ (x : Conversation). x.state.asked) is in
    record {
      turns =
          if-ok c.turn_after.result _ _ (λ turn at rest. stands-turns old new waiting rest rest w v (sent-by filter new waiting rest w v c.requires is writes) stops turn at)
          c.turn_after.ensures.stands;
      ends =
          if-err c.turn_after.result _ _ (λ end over rest. subst (EndsBy old rest rest w v) (sym over.0) (over-ends old new waiting rest rest w v (sent-by filter new waiting rest w v c.requires is writes) stops over.1))
          c.turn_after.ensures.over;
      asked = λ stage asks. if-ok c.turn_after.result _ _ (λ turn at. stands-asked new stage turn at (same ∙ asks)) c.turn_after.ensures.stands;
    }
