use Rattle.milter_world.specs.declared.state.State.TheVariants.{Linked}
use Rattle.milter_world.proofs.EndSteps.{SendLaws}
use Rattle.milter_world.proofs.EventMoves.{all-is, early-is, not_all, short_sent, sends-last, sends-more}
use Rattle.milter_world.proofs.EventCases.{at-state}
use Rattle.milter_world.proofs.events.sent_bytes_step.Goals as goal

pub returns : goal.returns
returns g c =
    let laws : SendLaws = record {
      both = c.messages_are_settled_by_dialogues.ensures.goes_on;
      advanced_on = c.messages_are_settled_by_dialogues.ensures.advanced;
      sent_on = c.messages_are_settled_by_dialogues.ensures.sent;
      advanced_reported = c.connections_are_reported.ensures.advanced;
      sent_reported = c.connections_are_reported.ensures.sent;
      adds_up = c.sent_bytes_add_up.ensures;
    } in
    record {
      sends = λ p ends settled k n pipe is at wanted more on_way.
          let linked = at-state p ends is (Linked settled k) at in
          let early = early-is p ends is.possible is.by_dialogues settled k at linked wanted in
          sends-more p ends is.possible is.by_dialogues settled k at linked n laws early pipe on_way (not_all p ends is.possible is.by_dialogues settled k at linked n laws early more);
      sends_last = λ p ends settled k n pipe is at wanted done.
          let linked = at-state p ends is (Linked settled k) at in
          let early = early-is p ends is.possible is.by_dialogues settled k at linked wanted in
          sends-last p ends is.possible is.by_dialogues settled k at linked n laws early pipe (all-is p ends is.possible is.by_dialogues settled k at linked n laws early done);
      short = λ p ends settled k n is at wanted. short_sent p ends is.possible is.by_dialogues settled k at (at-state p ends is (Linked settled k) at) laws n wanted;
    }
