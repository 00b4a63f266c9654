use Rattle.std.proofs.Common.{◌≡◌}
use Rattle.milter_world.specs.Schedule.{Scenario}
use Rattle.milter_world.specs.PlayedSessions.{AreUndisturbed, left_to_move}
use Rattle.milter_world.specs.Reached.{scenario_of}
use Rattle.milter_world.proofs.one_connection.play.Given as goal

-- nothing was lost so far, and the filter lives
abbrev pub invariant-loop-world : goal.invariant-loop-world
invariant-loop-world g l =
    let p : Scenario = scenario_of (g.P.Policy.behavior l.policy) l.fn.config l.fn.session in
    record {
      undisturbed : AreUndisturbed p l.world;
      policy : l.world.policy ≡ l.policy;
    }

abbrev pub decreases-loop-world : goal.decreases-loop-world
decreases-loop-world g l = left_to_move (scenario_of (g.P.Policy.behavior l.policy) l.fn.config l.fn.session) l.world.state
