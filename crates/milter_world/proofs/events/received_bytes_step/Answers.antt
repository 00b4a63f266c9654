use Rattle.milter_world.specs.declared.state.State.TheVariants.{Linked}
use Rattle.milter_world.proofs.EndSteps.{ReceivedLaws, receives_bytes-all, receives_bytes-to}
use Rattle.milter_world.proofs.EventMoves.{short_received}
use Rattle.milter_world.proofs.EventCases.{at-state}
use Rattle.milter_world.proofs.events.received_bytes_step.Goals as goal

pub returns : goal.returns
returns g c =
    let laws : ReceivedLaws = record {
      both = c.messages_are_settled_by_dialogues.ensures.goes_on;
      received_on = c.messages_are_settled_by_dialogues.ensures.received;
      received_reported = c.connections_are_reported.ensures.received;
    } in
    record {
      receives_bytes = λ p ends settled k n is at. receives_bytes-to p ends is.possible is.by_dialogues settled k at (at-state p ends is (Linked settled k) at) n laws;
      not_lost = λ p ends settled k n is at. receives_bytes-all p ends is.possible is.by_dialogues settled k at (at-state p ends is (Linked settled k) at) n;
      short = λ p ends settled k n is at. short_received p ends is.possible is.by_dialogues settled k at (at-state p ends is (Linked settled k) at) n;
    }
