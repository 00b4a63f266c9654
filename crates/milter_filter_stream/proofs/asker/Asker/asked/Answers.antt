use Rattle.std.proofs.Common.{sym, ◌∙◌, ap}
use Rattle.milter_filter_stream.specs.Asking.{Asking}
use Rattle.milter_filter_stream.proofs.asker.Asker.asked.Goals as goal

pub returns-clause-serving : goal.returns-clause-serving
returns-clause-serving c = λ stage is.
    let asked = c.self.invariant stage (ap (λ (r : Asking). r.state.asked) c.self.view_is ∙ is) in
    sym (ap (λ (r : Asking). r.state.order_state.state) c.self.view_is) ∙ asked.serving
