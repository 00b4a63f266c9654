use Rattle.std.proofs.Common.{Some, refl, sym, ap, ◌∙◌}
use Rattle.std.specs.Result.{result_ok}
use Rattle.milter_mta.specs.Output.{dialled}
use Rattle.milter_filter.specs.Cores.{fresh_core_in}
use Rattle.milter_world.specs.declared.event_line.Event.TheVariants as events
use Rattle.milter_world.proofs.EndsByParts.{steps-as}
use Rattle.milter_world.proofs.world.World.dial.Goals as goal

pub returns-in_ok-filter-in-Idle : goal.returns-in_ok-filter-in-Idle
returns-in_ok-filter-in-Idle g c = λ p b is.
    let v = c.self.view_is in
    let u = c.self-in-Idle-4.view_is ∙ c.clear_pipes.ensures in
    steps-as p c.args.self.now events.Dial _ _ _ _ _ _ _ _
    (ap (λ s. s.policy) u ∙ ap (λ s. s.policy) v)
    (ap (λ s. s.order) u ∙ ap (λ s. s.order) v)
    (ap (λ s. s.mta) u ∙ c.dialled.ensures ∙ ap (λ s. dialled s.mta) v)
    (ap (λ s. s.filter) u ∙ ap result_ok c.in_ok-filter-in-Idle.ensures ∙ ap (λ s. Some (fresh_core_in s.order s.policy)) v)
    (ap (λ s. s.to_filter) u) (ap (λ s. s.to_mta) u) refl
    (c.dialled_ends_step.ensures p c.args.self.now c.in-Idle.settled is (sym (ap (λ s. s.state) v) ∙ c.in-Idle.is))
