use Rattle.std.proofs.Common.{◌≡◌, ◌++◌, [], ◌∙◌, ap, sym, subst}
use Rattle.milter_filter_stream.specs.Conversations.{conversation_of}
use Rattle.milter_filter.specs.Cores.{Core, GivesUp, Takes}
use Rattle.milter_filter_stream.specs.Streams.{received_in}
use Rattle.milter_filter.proofs.PolicyCores.{core-answers, core-gives-up, core-takes, core_of}
use Rattle.milter_filter.proofs.filter_core.FilterCore.feed_serving.Goals as goal

pub returns-in-Err-clause-cause : goal.returns-in-Err-clause-cause
returns-in-Err-clause-cause g c = λ other.
    let i = c.self.inside in
    let b = g.P.Policy.behavior i.policy.now in
    let piece = c.args.piece.now in
    let fault = c.in-Err.fault in
    let gives = core-gives-up b (conversation_of i.wants i.stream) c.self.invariant.0 c.self.invariant.1 (received_in (i.stream.unread ++ piece)) fault (c.in-Err.ensures.cause other) in
    subst (λ (x : Core g.row.P.Denot). GivesUp (g.P.Policy.behavior x.policy) x.order_state (received_in (x.unread ++ piece)) fault) c.self.view_is gives

pub returns-in_default-clause-takes : goal.returns-in_default-clause-takes
returns-in_default-clause-takes g c =
    let i = c.self.inside in
    let b = g.P.Policy.behavior i.policy.now in
    let old = conversation_of i.wants i.stream in
    let piece = c.args.piece.now in
    let d = conversation_of i.wants c.feed.new.self in
    let taken = c.in-Ok.taken in
    let none : i.stream.pending ≡ [] = ap (λ (x : Core g.row.P.Denot). x.pending) c.self.view_is ∙ c.requires.nothing_pending in
    let takes = core-takes b old c.self.invariant.0 c.self.invariant.1 i.policy.now piece taken d none c.in-Ok.ensures.takes (sym c.asked.ensures.asked ∙ c.in_default.is) in
    subst (λ (x : Core g.row.P.Denot). Takes (g.P.Policy.behavior x.policy) x piece taken (core_of i.policy.now d)) c.self.view_is takes

pub returns-clause-takes : goal.returns-clause-takes
returns-clause-takes g c =
    let i = c.self.inside in
    let b = g.P.Policy.behavior i.policy.now in
    let old = conversation_of i.wants i.stream in
    let piece = c.args.piece.now in
    let d = conversation_of i.wants c.feed.new.self in
    let taken = c.in-Ok.taken in
    let none : i.stream.pending ≡ [] = ap (λ (x : Core g.row.P.Denot). x.pending) c.self.view_is ∙ c.requires.nothing_pending in
    let takes = core-answers b old c.self.invariant.0 c.self.invariant.1 i.policy.now piece taken d none c.in-Ok.ensures.takes c.in-Some.stage (sym c.asked.ensures.asked ∙ c.in-Some.is) in
    let given = subst (λ s. Takes b (core_of i.policy.now old) piece taken (core_of i.policy.now (conversation_of i.wants s))) (sym c.in_default-answer_at_once.ensures.ok) takes in
    subst (λ (x : Core g.row.P.Denot). Takes (g.P.Policy.behavior x.policy) x piece taken (core_of i.policy.now (conversation_of i.wants c.answer_at_once.new.stream))) c.self.view_is given
