use Rattle.milter_world.specs.declared.state.State.TheVariants.{Linked}
use Rattle.milter_world.proofs.EventMoves.{answers, dies, short_answered}
use Rattle.milter_world.proofs.EventCases.{at-state}
use Rattle.milter_world.proofs.events.answered_bytes_step.Goals as goal

pub returns : goal.returns
returns g c =
    record {
      answers = λ p ends settled k core n is at some.
          answers p ends is.possible is.by_dialogues settled k at (at-state p ends is (Linked settled k) at) core some n c.cores_go_on.ensures.sends;
      dies = λ p ends settled k is at. dies p ends is.possible is.by_dialogues settled k at (at-state p ends is (Linked settled k) at);
      short = λ p ends settled k core n is at some. short_answered p ends is.possible is.by_dialogues settled k at (at-state p ends is (Linked settled k) at) core some n;
    }
