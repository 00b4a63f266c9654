use Rattle.std.proofs.Common.{refl, sym, subst}
use Rattle.milter_mta_outcome.specs.declared.loss.Loss.TheVariants.{Memory}
use Rattle.milter_mta.specs.Dispositions.{lost}
use Rattle.milter_mta_client.specs.ConnectionRuns.{IsBetween, Steps}
use Rattle.milter_mta_client.specs.Events.Event.{GaveUp}
use Rattle.milter_mta_client.proofs.Connected.{lost-between}
use Rattle.milter_mta_client.proofs.EventRuns.{one-step, steps-on}
use Rattle.milter_mta_client.proofs.Noted.{notes-on}
use Rattle.milter_mta_client.proofs.client.give_up_messages.Goals as goal

pub loop-core-preserved : goal.loop-core-preserved
loop-core-preserved g c =
    let start = c.args.core.now in
    let m = c.loop-core.core in
    let step = subst (Steps m) (sym c.lose.ensures.lost) (one-step m (lost Memory m) (GaveUp Memory) (tt, refl)) in
    record {
      steps = steps-on start m c.lose.new.core c.loop-core.invariant.steps step;
      between = subst IsBetween (sym c.lose.ensures.lost) (lost-between Memory m);
      notes = notes-on g.O.Observer.notes c.events_keep_to_dialogues.ensures start m c.lose.new.core _ _ _ c.loop-core.invariant.steps step c.loop-core.invariant.notes (λ on. c.lose.ensures.notes);
    }
