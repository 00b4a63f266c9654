use Rattle.std.proofs.Common.{◌≡◌, ℕ, ◌+◌, ◌++◌, List, arith, take, refl, sym, ap, ◌∙◌}
use Rattle.milter_world.specs.declared.event_line.Event.TheVariants as events
use Rattle.milter_world.specs.declared.state.State.TheVariants.{Linked}
use Rattle.milter_world.proofs.EndsByParts.{steps-as}
use Rattle.milter_world.proofs.world.World.send.Goals as goal
use Rattle.std.proofs.Common.{Bool, true, false, if◌then◌else◌}
use Rattle.milter_mta.specs.Output.{advanced, pending, want}
use Rattle.milter_world.specs.Ends.{mta_sent, sent_count}
use Rattle.milter_world.proofs.world.World.send.Goals.{in-Done-want, in_default-want}

pub returns-in_default : goal.returns-in_default
returns-in_default g c = λ p b is.
    let v = c.self.view_is in
    c.events_without_effect.ensures.sends_not p c.args.self.now c.in-Linked.settled c.in-Linked.counts c.args.count is (sym (ap (λ s. s.state) v) ∙ c.in-Linked.is)
    (λ wanted. c.in_default.not-Send (c.want.ensures ∙ ap (λ s. want s.mta) v ∙ wanted))

pub overflow_add-self : goal.overflow_add-self
overflow_add-self g c =
    let v = c.self.view_is in
    let s = c.sent_bytes_step.ensures.short c.requires.scenario c.args.self.now c.in-Linked.settled c.in-Linked.counts c.args.count c.requires.are
    (sym (ap (λ s. s.state) v) ∙ c.in-Linked.is) (sym (c.want.ensures ∙ ap (λ s. want s.mta) v) ∙ c.in-Send.is) in
    let e = c.in_ok-sent-in-Linked.ensures.sent ∙ ap (λ s. sent_count c.args.count s.mta) v in
    omega arith

on-way : (lives : Bool) (pipe all none : List ℕ) → pipe ≡ (if lives then all else none) → lives ≡ true → pipe ≡ all
on-way true pipe all none e is = e
on-way false pipe all none e is = absurd (cc)

pub returns-after-want-2 : goal.returns-after-want-2
returns-after-want-2 g c = λ p b is.
    let v = c.self.view_is in
    let ends = c.args.self.now in
    let e = c.in_ok-sent-in-Linked.ensures in
    let at = sym (ap (λ s. s.state) v) ∙ c.in-Linked.is in
    let wanted = sym (c.want.ensures ∙ ap (λ s. want s.mta) v) ∙ c.in-Send.is in
    let mta_is = e.mta ∙ ap (λ s. mta_sent c.args.count s.mta) v in
    let want_is = sym (c.want-in-Linked.ensures ∙ ap want mta_is) in
    elim c.match-want-2.branch [
      | in-Done-want w ↦ steps-as p ends (events.Send c.args.count) _ _ _ _ _ _ _ _
          (ap (λ s. s.policy) v) (ap (λ s. s.order) v) mta_is (ap (λ s. s.filter) v) refl (ap (λ s. s.to_mta) v) w.self-is
          (c.sent_bytes_step.ensures.sends_last p ends c.in-Linked.settled c.in-Linked.counts c.args.count c.send_bytes.new.pipe is at wanted (want_is ∙ w.in-Done-want.is))
      | in_default-want w ↦ steps-as p ends (events.Send c.args.count) _ _ _ _ _ _ _ _
          (ap (λ s. s.policy) v) (ap (λ s. s.order) v) mta_is (ap (λ s. s.filter) v) refl (ap (λ s. s.to_mta) v)
          (w.self-is ∙ ap (λ k. Linked c.in-Linked.settled (record c.in-Linked.counts { sent = c.in-Linked.counts.sent + k })) (e.sent ∙ ap (λ s. sent_count c.args.count s.mta) v))
          (c.sent_bytes_step.ensures.sends p ends c.in-Linked.settled c.in-Linked.counts c.args.count c.send_bytes.new.pipe is at wanted
          (λ done. w.in_default-want.not-Done (sym want_is ∙ done))
          (on-way c.in-Linked.counts.lives c.send_bytes.new.pipe _ _
          (e.pipe ∙ ap (λ s. if c.in-Linked.counts.lives then s.to_filter ++ take (sent_count c.args.count s.mta) (pending (advanced s.mta)) else s.to_filter) v)))
    ]
