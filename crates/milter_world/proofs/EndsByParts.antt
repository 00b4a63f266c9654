-- Both ends by their parts.
use Rattle.std.proofs.Common.{◌≡◌, ℕ, List, Option, refl}
use Rattle.milter_protocol.specs.declared.stage_order.CommandOrder.{CommandOrder}
use Rattle.milter_mta.specs.Mta.{Mta}
use Rattle.milter_filter.specs.Cores.{Core}
use Rattle.milter_world.specs.declared.event_line.Event.{Event}
use Rattle.milter_world.specs.declared.state.State.{State}
use Rattle.milter_world.specs.Schedule.{Scenario}
use Rattle.milter_world.specs.Ends.{AreEndsOf, Ends, Steps}

pub steps-as : {P : Type 0} (p : Scenario) (old : Ends P) (event : Event) (new : Ends P) (policy : P) (order : CommandOrder) (mta : Mta) (filter : Option (Core P))
    (to_filter to_mta : List ℕ) (state : State) → policy ≡ new.policy → order ≡ new.order → mta ≡ new.mta → filter ≡ new.filter → to_filter ≡ new.to_filter → to_mta ≡ new.to_mta
    → state ≡ new.state → Steps p old event new
    → Steps p old event (record { policy = policy; order = order; mta = mta; filter = filter; to_filter = to_filter; to_mta = to_mta; state = state })
steps-as p old event new policy order mta filter to_filter to_mta state a b c d e f g steps = rw (a, b, c, d, e, f, g) steps

pub ends-as : {P : Type 0} (p : Scenario) (ends : Ends P) (policy : P) (order : CommandOrder) (mta : Mta) (filter : Option (Core P)) (to_filter to_mta : List ℕ) (state : State)
    → policy ≡ ends.policy → order ≡ ends.order → mta ≡ ends.mta → filter ≡ ends.filter → to_filter ≡ ends.to_filter → to_mta ≡ ends.to_mta → state ≡ ends.state → AreEndsOf p ends
    → AreEndsOf p (record { policy = policy; order = order; mta = mta; filter = filter; to_filter = to_filter; to_mta = to_mta; state = state })
ends-as p ends policy order mta filter to_filter to_mta state a b c d e f g are = rw (a, b, c, d, e, f, g) are

pub same-ends : {P : Type 0} (ends : Ends P) (policy : P) (order : CommandOrder) (mta : Mta) (filter : Option (Core P)) (to_filter to_mta : List ℕ) (state : State)
    → policy ≡ ends.policy → order ≡ ends.order → mta ≡ ends.mta → filter ≡ ends.filter → to_filter ≡ ends.to_filter → to_mta ≡ ends.to_mta → state ≡ ends.state
    → record { policy = policy; order = order; mta = mta; filter = filter; to_filter = to_filter; to_mta = to_mta; state = state } ≡ ends
same-ends ends policy order mta filter to_filter to_mta state a b c d e f g = rw (a, b, c, d, e, f, g) refl
