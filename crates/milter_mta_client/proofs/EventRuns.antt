-- Events, one after the other.
use Rattle.std.proofs.Common.{List, [], ◌∷◌, ◌++◌, refl, subst}
use Rattle.milter_mta.specs.Mta.{Mta}
use Rattle.milter_mta_client.specs.ConnectionRuns.{Steps}
use Rattle.milter_mta_client.specs.Events.{Does, Event, Runs}

pub runs-append : (a b c : Mta) (events more : List Event) → Runs a events b → Runs b more c → Runs a (events ++ more) c
runs-append a b c [] more first next = subst (λ (m : Mta). Runs m more c) first next
runs-append a b c (event ∷ events) more first next = (first.0, first.1, runs-append first.0 b c events more first.2 next)

pub no-steps : (m : Mta) → Steps m m
no-steps m = record { events = []; runs = refl }

pub one-step : (old new : Mta) (event : Event) → Does event old new → Steps old new
one-step old new event does = record { events = event ∷ []; runs = (new, does, refl) }

pub steps-on : (a b c : Mta) → Steps a b → Steps b c → Steps a c
steps-on a b c first next =
    record { events = first.events ++ next.events; runs = runs-append a b c first.events next.events first.runs next.runs }
