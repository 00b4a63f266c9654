use Rattle.std.proofs.Common.{◌≡◌, ◌+◌, ◌-◌, ◌≤◌}
use Rattle.milter_play.specs.FilterRuns.{ServedAll}
use Rattle.milter_play.proofs.filter_command.serve_all.Given as goal

abbrev pub invariant-loop-number : goal.invariant-loop-number
invariant-loop-number g l = record {
  so_far : ServedAll (λ it. g.C.Connections.serves it l.initial.server.order) (g.P.Policy.behavior l.initial.server.policy) (l.number - 1) l.initial.connections l.connections (g.W.Write.contents l.initial.writer) (g.W.Write.contents l.writer);
  within : l.number ≤ l.count + 1;
  server : l.server ≡ l.initial.server;
}
