use Rattle.std.proofs.Common.{Err, Ok, sym, subst}
use Rattle.milter_mta_outcome.specs.declared.loss.Loss.TheVariants.{Reset}
use Rattle.milter_mta_client.specs.ConnectionRuns.{Moves, Steps, Turns}
use Rattle.milter_mta_client.specs.Observations.{Notes}
use Rattle.milter_mta_client.specs.declared.link_calls.Stop.{Stop}
use Rattle.milter_mta_client.specs.declared.link_calls.Stop.TheVariants.{Interrupted, Lost, Over}
use Rattle.milter_mta_client.proofs.Conversed.{ends, gives-up, moves-on}
use Rattle.milter_mta_client.proofs.Noted.{lost-step, notes-on}
use Rattle.milter_mta_client.proofs.connection.drive.Goals as goal
use Rattle.milter_mta_client.proofs.connection.drive.Goals.{else-loop-test, in-Err-Interrupted, in-Ok, then-loop-test+in-Err-Interrupted-2}

pub returns-in-Err-Lost-clause-steps : goal.returns-in-Err-Lost-clause-steps
returns-in-Err-Lost-clause-steps g c =
    let start = c.args.core.now in
    let turned = c.observed_turn.new.core in
    let stopped : Turns c.loop.core turned (Err (Lost c.in-Err-Lost.loss)) =
    subst (λ (stop : Stop). Turns c.loop.core turned (Err stop)) c.in-Err-Lost.field-0-is c.in-Err-Lost.ensures.turns in
    let moved = moves-on start c.loop.core turned c.loop.invariant.moves stopped.0 in
    subst (Steps start) (sym c.lose.ensures.lost) (gives-up start c.requires.some_left turned c.in-Err-Lost.loss moved stopped.1).steps

pub returns-in-Err-Lost-clause-notes : goal.returns-in-Err-Lost-clause-notes
returns-in-Err-Lost-clause-notes g c =
    let start = c.args.core.now in
    let turned = c.observed_turn.new.core in
    let notes = g.O.Observer.notes in
    let law = c.events_keep_to_dialogues.ensures in
    let stopped : Turns c.loop.core turned (Err (Lost c.in-Err-Lost.loss)) =
    subst (λ (stop : Stop). Turns c.loop.core turned (Err stop)) c.in-Err-Lost.field-0-is c.in-Err-Lost.ensures.turns in
    let moved = moves-on start c.loop.core turned c.loop.invariant.moves stopped.0 in
    let noted = notes-on notes law start c.loop.core turned _ _ _ c.loop.invariant.moves.steps stopped.0.steps c.loop.invariant.notes (λ on. c.in-Err-Lost.ensures.notes) in
    notes-on notes law start turned c.lose.new.core _ _ _ moved.steps (lost-step turned c.lose.new.core c.in-Err-Lost.loss stopped.1 c.lose.ensures.lost) noted
    (λ on. c.lose.ensures.notes)

pub returns-in-Err-Over-clause-steps : goal.returns-in-Err-Over-clause-steps
returns-in-Err-Over-clause-steps g c =
    let over : Turns c.loop.core c.observed_turn.new.core (Err Over) =
    subst (λ (stop : Stop). Turns c.loop.core c.observed_turn.new.core (Err stop)) c.in-Err-Over.field-0-is c.in-Err-Over.ensures.turns in
    (ends c.args.core.now c.requires.some_left c.loop.core c.observed_turn.new.core c.loop.invariant.moves over.0 over.1).steps

pub returns-in-Err-Over-clause-notes : goal.returns-in-Err-Over-clause-notes
returns-in-Err-Over-clause-notes g c =
    let over : Turns c.loop.core c.observed_turn.new.core (Err Over) =
    subst (λ (stop : Stop). Turns c.loop.core c.observed_turn.new.core (Err stop)) c.in-Err-Over.field-0-is c.in-Err-Over.ensures.turns in
    notes-on g.O.Observer.notes c.events_keep_to_dialogues.ensures c.args.core.now c.loop.core c.observed_turn.new.core _ _ _ c.loop.invariant.moves.steps over.0
    c.loop.invariant.notes (λ on. c.in-Err-Over.ensures.notes)

pub loop-preserved : goal.loop-preserved
loop-preserved g c =
    let start = c.args.core.now in
    let last = c.observed_turn.new.core in
    let on = moves-on start c.loop.core last c.loop.invariant.moves in
    let turns : Moves c.loop.core last =
    elim c.match-observed_turn.branch [
      | in-Ok w ↦ w.in-Ok.ensures.turns
      | in-Err-Interrupted w ↦ subst (λ (stop : Stop). Turns c.loop.core last (Err stop)) w.in-Err-Interrupted.field-0-is w.in-Err-Interrupted.ensures.turns
    ] in
    record {
      moves = on turns;
      notes = notes-on g.O.Observer.notes c.events_keep_to_dialogues.ensures start c.loop.core last _ _ _ c.loop.invariant.moves.steps turns.steps c.loop.invariant.notes
          (λ is. c.observed_turn.ensures.notes);
    }

pub returns-clause-steps : goal.returns-clause-steps
returns-clause-steps g c =
    let start = c.args.core.now in
    let moved : Moves start c.loop-test.core =
    elim c.loop-test.branch [
      | else-loop-test w ↦ subst (Moves start) (sym w.core-is) c.loop.invariant.moves
      | then-loop-test+in-Err-Interrupted-2 w ↦
          let stopped : Turns c.loop.core w.observed_turn.new.core (Err Interrupted) =
          subst (λ (stop : Stop). Turns c.loop.core w.observed_turn.new.core (Err stop)) w.in-Err-Interrupted-2.field-0-is w.in-Err-Interrupted.ensures.turns in
          subst (Moves start) (sym w.core-is) (moves-on start c.loop.core w.observed_turn.new.core c.loop.invariant.moves stopped)
    ] in
    subst (Steps start) (sym c.lose-2.ensures.lost) (gives-up start c.requires.some_left c.loop-test.core Reset moved tt).steps

pub returns-clause-notes : goal.returns-clause-notes
returns-clause-notes g c =
    let start = c.args.core.now in
    let here = c.loop-test.core in
    let notes = g.O.Observer.notes in
    let law = c.events_keep_to_dialogues.ensures in
    let moved : Moves start here =
    elim c.loop-test.branch [
      | else-loop-test w ↦ subst (Moves start) (sym w.core-is) c.loop.invariant.moves
      | then-loop-test+in-Err-Interrupted-2 w ↦
          let stopped : Turns c.loop.core w.observed_turn.new.core (Err Interrupted) =
          subst (λ (stop : Stop). Turns c.loop.core w.observed_turn.new.core (Err stop)) w.in-Err-Interrupted-2.field-0-is w.in-Err-Interrupted.ensures.turns in
          subst (Moves start) (sym w.core-is) (moves-on start c.loop.core w.observed_turn.new.core c.loop.invariant.moves stopped)
    ] in
    let noted : Notes notes start here c.args.observer.now c.loop-test.observer =
    elim c.loop-test.branch [
      | else-loop-test w ↦ rw (w.core-is, w.observer-is) c.loop.invariant.notes
      | then-loop-test+in-Err-Interrupted-2 w ↦
          let stopped : Turns c.loop.core w.observed_turn.new.core (Err Interrupted) =
          subst (λ (stop : Stop). Turns c.loop.core w.observed_turn.new.core (Err stop)) w.in-Err-Interrupted-2.field-0-is w.in-Err-Interrupted.ensures.turns in
          rw (w.core-is, w.observer-is)
          (notes-on notes law start c.loop.core w.observed_turn.new.core _ _ _ c.loop.invariant.moves.steps stopped.steps c.loop.invariant.notes
          (λ on. w.in-Err-Interrupted.ensures.notes))
    ] in
    notes-on notes law start here c.lose-2.new.core _ _ _ moved.steps (lost-step here c.lose-2.new.core Reset tt c.lose-2.ensures.lost) noted (λ on. c.lose-2.ensures.notes)
