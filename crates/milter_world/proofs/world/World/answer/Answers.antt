use Rattle.std.proofs.Common.{◌+◌, ◌++◌, Some, arith, take, sym, ap, ◌∙◌}
use Rattle.milter_world.specs.declared.event_line.Event.TheVariants as events
use Rattle.milter_world.specs.declared.state.State.TheVariants.{Linked}
use Rattle.milter_world.proofs.EndsByParts.{steps-as}
use Rattle.milter_world.proofs.world.World.answer.Goals as goal

pub overflow_add-answered : goal.overflow_add-answered
overflow_add-answered g c =
    let v = c.self.view_is in
    let s = c.answered_bytes_step.ensures.short c.requires.scenario c.args.self.now c.in-Linked.settled c.in-Linked.counts c.in-Some.filter c.args.count c.requires.are
    (sym (ap (λ s. s.state) v) ∙ c.in-Linked.is) (sym (ap (λ s. s.filter) v) ∙ c.in-Some.is) in
    let e = c.in_ok-answered-in-Linked.ensures.count in
    omega arith

pub returns-in_ok-answered-in-Linked : goal.returns-in_ok-answered-in-Linked
returns-in_ok-answered-in-Linked g c = λ p b is.
    let v = c.self.view_is in
    steps-as p c.args.self.now (events.Answer c.args.count) _ _ _ _ _ _ _ _
    (ap (λ s. s.policy) v) (ap (λ s. s.order) v) (ap (λ s. s.mta) v) (ap Some c.in_ok-answered-in-Linked.ensures.filter) (ap (λ s. s.to_filter) v)
    (c.in_ok-answered-in-Linked.ensures.pipe ∙ ap (λ s. s.to_mta ++ take c.args.count c.in-Some.filter.pending) v)
    (ap (λ k. Linked c.in-Linked.settled (record c.in-Linked.counts { answered = c.in-Linked.counts.answered + k })) c.in_ok-answered-in-Linked.ensures.count)
    (c.answered_bytes_step.ensures.answers p c.args.self.now c.in-Linked.settled c.in-Linked.counts c.in-Some.filter c.args.count is
    (sym (ap (λ s. s.state) v) ∙ c.in-Linked.is) (sym (ap (λ s. s.filter) v) ∙ c.in-Some.is))
