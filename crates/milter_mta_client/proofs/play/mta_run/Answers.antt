use Rattle.std.proofs.Common.{refl, subst}
use Rattle.milter_mta.specs.Mta.{Mta, fresh}
use Rattle.milter_mta_client.specs.ClientRuns.{Converses}
use Rattle.milter_mta_client.proofs.LoggedTexts.{all-are-logged}
use Rattle.milter_mta_client.proofs.play.mta_run.Goals as goal

pub returns-in-None : goal.returns-in-None
returns-in-None g c =
    let disposition = c.converse_observed.result in
    let new = c.in-Ok.ensures.ok in
    let start = fresh c.args.config c.args.session in
    let on = c.messages_are_settled_by_dialogues.ensures.fresh c.args.config c.args.session in
    record {
      done = record {
        disposition = disposition;
        played = subst (λ (m : Mta). Converses m disposition) new c.converse_observed.ensures.converses;
        written = all-are-logged g.W.Write.contents c.in-Ok.core start disposition.messages _ _ new refl c.converse_observed.ensures.notes on c.in-None.is;
      };
    }
