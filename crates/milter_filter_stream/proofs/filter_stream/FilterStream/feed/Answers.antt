use Rattle.std.proofs.Common.{◌≢◌, [], drop, false, length, refl, subst, IsTrue}
use Rattle.milter_protocol.specs.declared.filter_fault.FilterState.TheVariants.{Serving}
use Rattle.milter_filter_stream.specs.Conversations.{Conversation, StreamState, TakesIn, conversation_of}
use Rattle.milter_filter_stream.specs.Asking.{Asking, StopsAt, TakesBytes}
use Rattle.milter_filter_stream.proofs.Progress.{all-taken}
use Rattle.milter_filter_stream.proofs.filter_stream.FilterStream.feed.Goals as goal

pub returns-clause-takes : goal.returns-clause-takes
returns-clause-takes c =
    let inside = c.self.inside in
    let r = inside.asker in
    let w = c.args.wants.now in
    let piece = c.args.piece.now in
    let now = c.feed_piece.new.asker in
    let left = c.feed_piece.new.splitter in
    let taken = c.in-Ok.taken in
    let old : Conversation = record { wanted = w; state = r.state; unread = inside.splitter; pending = drop inside.sent r.pending } in
    let new : Conversation = record { wanted = w; state = now.state; unread = c.clear.new.self; pending = now.pending } in
    let found : TakesBytes w (record r { pending = [] }) inside.splitter piece taken now left =
    subst (λ (x : Asking). TakesBytes w x inside.splitter piece taken now left) c.clear_pending.ensures c.in-Ok.ensures.takes in
    let stops : StopsAt w (record r { pending = [] }) inside.splitter piece taken now =
    subst (λ (x : Asking). StopsAt w x inside.splitter piece taken now) c.clear_pending.ensures c.in-Ok.ensures.stops in
    let ended : now.state.order_state.state ≢ Serving = λ serving. let no : IsTrue false = subst IsTrue c.if-is_serving.false (c.is_serving.ensures.1 serving) in absurd cc in
    let takes : TakesIn old piece (length piece) new =
    all-taken old new piece left taken found refl ended c.clear.ensures (stops.silent_end ended) stops.asks_alone in
    subst (λ (x : StreamState). TakesIn (conversation_of w x) piece (length piece) new) c.self.view_is takes
