use Rattle.milter_mta_client.specs.ConnectionRuns.{IsBetween, Steps, dials_left}
use Rattle.milter_mta_client.specs.Observations.{Notes}
use Rattle.milter_mta_client.proofs.client.drive_all.Given as goal

-- no connection is there
abbrev pub invariant-loop-dial : goal.invariant-loop-dial
invariant-loop-dial g l = record {
  steps : Steps l.initial.core l.core;
  between : IsBetween l.core;
  notes : Notes g.O.Observer.notes l.initial.core l.core l.initial.observer l.observer;
}

abbrev pub decreases-loop-dial : goal.decreases-loop-dial
decreases-loop-dial g l = dials_left l.core
