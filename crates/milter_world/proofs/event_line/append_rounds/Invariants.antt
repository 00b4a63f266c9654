use Rattle.std.proofs.Common.{◌≡◌, ◌++◌}
use Rattle.milter_world.specs.Rounds.{rounds}
use Rattle.milter_world.proofs.event_line.append_rounds.Given as goal

abbrev pub invariant-loop : goal.invariant-loop
invariant-loop l = l.events.items ≡ l.fn.events.items ++ rounds l.counter l.bytes
