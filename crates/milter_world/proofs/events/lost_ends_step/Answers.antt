use Rattle.milter_world.proofs.EndSteps.{LossLaws}
use Rattle.milter_world.proofs.EventCases.{dials-again, ends-then, lost}
use Rattle.milter_world.proofs.events.lost_ends_step.Goals as goal

pub returns : goal.returns
returns g c =
    let laws : LossLaws = record {
      both = c.messages_are_settled_by_dialogues.ensures.goes_on;
      lost_on = c.messages_are_settled_by_dialogues.ensures.lost;
      lost_reported = c.connections_are_reported.ensures.lost;
      unconnected = c.losses_settle_one.ensures.unconnected;
      settles_nothing = c.sending_settles_nothing.ensures;
    } in
    record {
      loses = λ p ends event loss is going kind. lost p ends is laws event loss going kind;
      dials_again = λ p ends event loss is going kind wanted. dials-again p ends is laws event loss going kind wanted;
      ends_then = λ p ends event loss is going kind other. ends-then p ends is laws event loss going kind other;
    }
