use Rattle.milter_world.specs.declared.state.State.TheVariants.{Linked}
use Rattle.milter_world.proofs.EventMoves.{fails, same_policy, short_taken, serves, takes, waits}
use Rattle.milter_world.proofs.EventCases.{at-state}
use Rattle.milter_world.proofs.events.taken_bytes_step.Goals as goal

pub returns : goal.returns
returns g c =
    record {
      takes = λ p ends settled k core new n count is at some none takes_it.
          takes p ends is.possible is.by_dialogues settled k at (at-state p ends is (Linked settled k) at) core some n c.cores_go_on.ensures.takes count new none takes_it;
      waits = λ p ends settled k core n is at some full.
          waits p ends is.possible is.by_dialogues settled k at (at-state p ends is (Linked settled k) at) core some n full;
      serves = λ p ends settled k core is at some. serves p ends is.possible is.by_dialogues settled k at (at-state p ends is (Linked settled k) at) core some;
      same_policy = λ p ends settled k core is at some. same_policy p ends is.possible is.by_dialogues settled k at (at-state p ends is (Linked settled k) at) core some;
      fails_not = λ p ends settled k core n fault is at some none.
          fails p ends is.possible is.by_dialogues settled k at (at-state p ends is (Linked settled k) at) c.cores_go_on.ensures.gives_up core some n none fault;
      short = λ p ends settled k core n is at some. short_taken p ends is.possible is.by_dialogues settled k at (at-state p ends is (Linked settled k) at) core some n;
    }
