use Rattle.std.proofs.Common.{◌≢◌, length, sym, ap, ◌∙◌}
use Rattle.milter_mta.specs.Output.{want}
use Rattle.milter_mta.specs.Dispositions.{lost}
use Rattle.milter_world.specs.declared.state.State.TheVariants.{Done, Idle}
use Rattle.milter_world.proofs.EndsByParts.{steps-as}
use Rattle.milter_world.proofs.world.World.lose.Goals as goal
use Rattle.milter_world.proofs.world.World.lose.Goals.{in-Dial, in_default-want}

pub returns-after-want : goal.returns-after-want
returns-after-want g c = λ p event b is kind.
    let v = c.self.view_is in
    let u = c.self-in_default-4.view_is ∙ c.clear_pipes.ensures in
    let going : c.args.self.now.state ≢ Done = λ done. c.in_default.not-Done (ap (λ s. s.state) v ∙ done) in
    let mta_is = ap (λ s. s.mta) u ∙ c.lost.ensures ∙ ap (λ s. lost c.args.loss s.mta) v in
    let want_is = sym (c.want.ensures ∙ ap want mta_is) in
    let policy_is = ap (λ s. s.policy) u ∙ ap (λ s. s.policy) v in
    let order_is = ap (λ s. s.order) u ∙ ap (λ s. s.order) v in
    let steps = c.lost_ends_step.ensures.loses p c.args.self.now event c.args.loss is going kind in
    elim c.match-want.branch [
      | in-Dial w ↦ steps-as p c.args.self.now event _ _ _ _ _ _ _ _
          policy_is order_is mta_is (ap (λ s. s.filter) u) (ap (λ s. s.to_filter) u) (ap (λ s. s.to_mta) u)
          (w.self-is ∙ ap Idle (w.settled.ensures ∙ ap (λ m. length m.reports) mta_is)
          ∙ sym (c.lost_ends_step.ensures.dials_again p c.args.self.now event c.args.loss is going kind (want_is ∙ w.in-Dial.is))) steps
      | in_default-want w ↦ steps-as p c.args.self.now event _ _ _ _ _ _ _ _
          policy_is order_is mta_is (ap (λ s. s.filter) u) (ap (λ s. s.to_filter) u) (ap (λ s. s.to_mta) u)
          (w.self-is ∙ sym (c.lost_ends_step.ensures.ends_then p c.args.self.now event c.args.loss is going kind (λ dial. w.in_default-want.not-Dial (sym want_is ∙ dial)))) steps
    ]
