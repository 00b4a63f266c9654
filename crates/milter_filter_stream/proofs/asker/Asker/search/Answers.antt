use Rattle.std.proofs.Common.{◌≡◌, Some, sym, subst}
use Rattle.milter_wire.specs.declared.stage.Stage.{Stage}
use Rattle.milter_protocol.specs.OrderStates.{OrderState}
use Rattle.milter_filter_stream.specs.Asking.{IsAsked}
use Rattle.milter_filter_stream.proofs.asker.Asker.search.Goals as goal

pub invariant_of-self : goal.invariant_of-self
invariant_of-self c =
    subst (λ (s : OrderState). (stage : Stage) → c.self.inside.asked ≡ Some stage → IsAsked s stage) (sym c.search.ensures) c.self.invariant
