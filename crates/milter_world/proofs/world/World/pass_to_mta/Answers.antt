use Rattle.std.proofs.Common.{◌+◌, arith, take, drop, length, sym, ap, ◌∙◌}
use Rattle.milter_world.specs.declared.event_line.Event.TheVariants as events
use Rattle.milter_world.specs.declared.state.State.TheVariants.{Linked}
use Rattle.milter_world.proofs.EndsByParts.{steps-as}
use Rattle.milter_world.proofs.world.World.pass_to_mta.Goals as goal
use Rattle.milter_mta.specs.Replies.{received}

pub feed_mta-requires : goal.feed_mta-requires
feed_mta-requires g c =
    let v = c.self.view_is in
    ap (λ s. (received s.mta (take c.args.count s.to_mta)).loss) v
    ∙ c.received_bytes_step.ensures.not_lost c.requires.scenario c.args.self.now c.in-Linked.settled c.in-Linked.counts c.args.count c.requires.are (sym (ap (λ s. s.state) v) ∙ c.in-Linked.is)

pub overflow_add-received : goal.overflow_add-received
overflow_add-received g c =
    let v = c.self.view_is in
    let s = c.received_bytes_step.ensures.short c.requires.scenario c.args.self.now c.in-Linked.settled c.in-Linked.counts c.args.count c.requires.are
    (sym (ap (λ s. s.state) v) ∙ c.in-Linked.is) in
    let e = c.in_ok-received-in-Linked.ensures.count ∙ ap (λ s. length (take c.args.count s.to_mta)) v in
    omega arith

pub returns-in_ok-received-in-Linked : goal.returns-in_ok-received-in-Linked
returns-in_ok-received-in-Linked g c = λ p b is.
    let v = c.self.view_is in
    steps-as p c.args.self.now (events.ToMta c.args.count) _ _ _ _ _ _ _ _
    (ap (λ s. s.policy) v) (ap (λ s. s.order) v)
    (c.in_ok-received-in-Linked.ensures.mta ∙ ap (λ s. (received s.mta (take c.args.count s.to_mta)).mta) v)
    (ap (λ s. s.filter) v) (ap (λ s. s.to_filter) v)
    (c.in_ok-received-in-Linked.ensures.pipe ∙ ap (λ s. drop c.args.count s.to_mta) v)
    (ap (λ k. Linked c.in-Linked.settled (record c.in-Linked.counts { received = c.in-Linked.counts.received + k }))
    (c.in_ok-received-in-Linked.ensures.count ∙ ap (λ s. length (take c.args.count s.to_mta)) v))
    (c.received_bytes_step.ensures.receives_bytes p c.args.self.now c.in-Linked.settled c.in-Linked.counts c.args.count is (sym (ap (λ s. s.state) v) ∙ c.in-Linked.is))
