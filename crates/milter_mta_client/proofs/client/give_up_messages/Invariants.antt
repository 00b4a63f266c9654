use Rattle.milter_mta_client.specs.ConnectionRuns.{IsBetween, Steps, dials_left}
use Rattle.milter_mta_client.specs.Observations.{Notes}
use Rattle.milter_mta_client.proofs.client.give_up_messages.Given as goal

-- no connection is there
abbrev pub invariant-loop-core : goal.invariant-loop-core
invariant-loop-core g l = record {
  steps : Steps l.initial.core l.core;
  between : IsBetween l.core;
  notes : Notes g.O.Observer.notes l.initial.core l.core l.initial.observer l.observer;
}

abbrev pub decreases-loop-core : goal.decreases-loop-core
decreases-loop-core g l = dials_left l.core
