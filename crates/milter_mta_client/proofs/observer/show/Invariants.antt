use Rattle.std.proofs.Common.{◌+◌, drop}
use Rattle.milter_mta_client.proofs.Noted.{Completes}
use Rattle.milter_mta_client.proofs.observer.show.Given as goal

-- what is noted from here on completes what is noted in all
abbrev pub invariant-loop-index : goal.invariant-loop-index
invariant-loop-index g l =
    Completes g.O.Observer.notes (l.index + 1) (drop l.index l.core.reports) l.observer (l.shown + 1) (drop l.shown l.core.reports) l.initial.observer
