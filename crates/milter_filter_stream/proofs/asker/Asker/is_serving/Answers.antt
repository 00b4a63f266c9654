use Rattle.std.proofs.Common.{sym, ◌∙◌, ap}
use Rattle.milter_filter_stream.specs.Asking.{Asking}
use Rattle.milter_filter_stream.proofs.AnswerEffects.{asked-serves}
use Rattle.milter_filter_stream.proofs.asker.Asker.is_serving.Goals as goal

pub returns-then-is_some : goal.returns-then-is_some
returns-then-is_some c =
    let serving = asked-serves c.self.inside.connection c.self.inside.asked c.self.invariant (sym c.is_some.ensures ∙ c.if-is_some.true) in
    (λ _. sym (ap (λ (r : Asking). r.state.order_state.state) c.self.view_is) ∙ serving, λ _. c.if-is_some.true)
