use Rattle.milter_world.specs.declared.state.State.TheVariants.{Idle}
use Rattle.milter_world.proofs.EndSteps.{DialLaws, dials}
use Rattle.milter_world.proofs.EventCases.{at-state}
use Rattle.milter_world.proofs.events.dialled_ends_step.Goals as goal

pub returns : goal.returns
returns g c =
    let laws : DialLaws _ = record {
      both = c.messages_are_settled_by_dialogues.ensures.goes_on;
      dialled_on = c.messages_are_settled_by_dialogues.ensures.dialled;
      dialled_reported = c.connections_are_reported.ensures.dialled;
      begins = c.cores_go_on.ensures.begins;
    } in
    λ p ends settled is at. dials p ends is.possible is.by_dialogues settled at (at-state p ends is (Idle settled) at) laws
