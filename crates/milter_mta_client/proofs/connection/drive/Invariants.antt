use Rattle.milter_mta_client.specs.ConnectionRuns.{Moves}
use Rattle.milter_mta_client.specs.Observations.{Notes}
use Rattle.milter_mta_client.proofs.connection.drive.Given as goal

-- the connection is still there
abbrev pub invariant-loop : goal.invariant-loop
invariant-loop g l = record {
  moves : Moves l.fn.core l.core;
  notes : Notes g.O.Observer.notes l.fn.core l.core l.fn.observer l.observer;
}
