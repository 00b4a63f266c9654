use Rattle.milter_world.specs.declared.state.State.TheVariants.{Linked}
use Rattle.milter_world.proofs.EventMoves.{sends-not}
use Rattle.milter_world.proofs.EventCases.{at-state, dead, no_dial, over, unconnected}
use Rattle.milter_world.proofs.events.events_without_effect.Goals as goal

pub returns : goal.returns
returns g c =
    record {
      no_dial = λ p ends is other. no_dial p ends is other;
      unconnected = λ p ends event is other kind. unconnected p ends is event other kind;
      over = λ p ends event is at. over p ends is event at;
      dead = λ p ends event is none kind. dead p ends is event none kind;
      sends_not = λ p ends settled k n is at other.
          sends-not p ends is.possible is.by_dialogues settled k at (at-state p ends is (Linked settled k) at) n other;
    }
