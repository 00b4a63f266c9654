use Rattle.std.proofs.Common.{◌≡◌, drop}
use Rattle.milter_world.specs.Schedule.{Scenario, after_all, first, stays}
use Rattle.milter_world.specs.Ends.{AreEndsOf}
use Rattle.milter_world.specs.Reached.{after_of, scenario_of}
use Rattle.milter_world.proofs.any_schedule.run_in_order.Given as goal

-- both ends are where the events so far lead, and those that are left lead on from there
abbrev pub invariant-loop-event : goal.invariant-loop-event
invariant-loop-event g l =
    let p : Scenario = scenario_of (g.P.Policy.behavior l.policy) l.fn.config l.fn.session in
    record {
      are : AreEndsOf p l.world;
      policy : l.world.policy ≡ l.policy;
      leads : after_all p (after_of l.world) (drop l.event-index l.events) ≡ after_all p (stays (first p)) l.events;
    }
