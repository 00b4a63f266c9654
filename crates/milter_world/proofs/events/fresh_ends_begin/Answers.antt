use Rattle.milter_mta.specs.Mta.{fresh}
use Rattle.milter_world.proofs.FreshEnds.{begins, dials-first, over-first}
use Rattle.milter_world.proofs.events.fresh_ends_begin.Goals as goal

pub returns : goal.returns
returns g c =
    record {
      begins = λ p order policy possible. begins p order policy possible (record {
        dialogues = c.messages_are_settled_by_dialogues.ensures.stays (fresh p.config p.session) (c.messages_are_settled_by_dialogues.ensures.fresh p.config p.session);
        connection = c.connections_are_reported.ensures.fresh p.config p.session;
      });
      dials = λ p wanted. dials-first p wanted;
      over = λ p other. over-first p other;
    }
