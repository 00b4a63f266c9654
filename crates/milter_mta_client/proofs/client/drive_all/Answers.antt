use Rattle.std.proofs.Common.{◌≡◌, refl, sym, subst}
use Rattle.milter_mta_outcome.specs.declared.loss.Loss.TheVariants.{Reset}
use Rattle.milter_mta.specs.declared.mta_core.Want.TheVariants as wants
use Rattle.milter_mta.specs.Mta.{Mta}
use Rattle.milter_mta.specs.Output.{dialled, want}
use Rattle.milter_mta.specs.Dispositions.{lost}
use Rattle.milter_mta_client.specs.ConnectionRuns.{IsBetween, Steps}
use Rattle.milter_mta_client.specs.Events.Event.{Dialled, GaveUp}
use Rattle.milter_mta_client.specs.Observations.{Notes}
use Rattle.milter_mta_client.proofs.Connected.{lost-between}
use Rattle.milter_mta_client.proofs.Dialled.{dialled-notes}
use Rattle.milter_mta_client.proofs.EventRuns.{one-step, steps-on}
use Rattle.milter_mta_client.proofs.Noted.{notes-none, notes-on}
use Rattle.milter_mta_client.proofs.client.drive_all.Goals as goal

pub loop-dial-preserved-in-Ok : goal.loop-dial-preserved-in-Ok
loop-dial-preserved-in-Ok g c =
    let start = c.args.core.now in
    let m = c.loop-dial.core in
    let last = c.drive.new.core in
    let notes = g.O.Observer.notes in
    let law = c.events_keep_to_dialogues.ensures in
    let wanted : want m ≡ wants.Dial = c.wants_dial.ensures.0 c.loop-dial-test.true in
    let made = one-step m (dialled m) Dialled (wanted, refl) in
    let driven = subst (λ (x : Mta). Steps x last) c.dialled.ensures c.drive.ensures.steps in
    let noted = subst (λ (x : Mta). Notes notes x last c.loop-dial.observer c.drive.new.observer) c.dialled.ensures c.drive.ensures.notes in
    record {
      steps = steps-on start m last c.loop-dial.invariant.steps (steps-on m (dialled m) last made driven);
      between = c.drive.ensures.between;
      notes = notes-on notes law start (dialled m) last _ _ _ (steps-on start m (dialled m) c.loop-dial.invariant.steps made) driven
          (notes-on notes law start m (dialled m) _ _ _ c.loop-dial.invariant.steps made c.loop-dial.invariant.notes (dialled-notes notes m c.loop-dial.observer))
          noted;
    }

pub loop-dial-preserved : goal.loop-dial-preserved
loop-dial-preserved g c =
    let start = c.args.core.now in
    let m = c.loop-dial.core in
    let step = subst (Steps m) (sym c.lose.ensures.lost) (one-step m (lost Reset m) (GaveUp Reset) (tt, refl)) in
    record {
      steps = steps-on start m c.lose.new.core c.loop-dial.invariant.steps step;
      between = subst IsBetween (sym c.lose.ensures.lost) (lost-between Reset m);
      notes = notes-on g.O.Observer.notes c.events_keep_to_dialogues.ensures start m c.lose.new.core _ _ _ c.loop-dial.invariant.steps step c.loop-dial.invariant.notes (λ on. c.lose.ensures.notes);
    }
