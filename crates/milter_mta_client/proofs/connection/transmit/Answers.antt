use Rattle.milter_mta_client.proofs.ConnectionTurns.{writes}
use Rattle.milter_mta_client.proofs.connection.transmit.Goals as goal

pub returns : goal.returns
returns g c =
    writes _ _ c.args.core.now c.advance.new.self c.sent.new.self c.pending.result.now c.in_ok-count.count c.in-Ok.ensures.ok c.pending.ensures
    c.in_ok-count.ensures.count.0 c.in_ok-count.ensures.count.1 c.in_ok-count.ensures.written c.sent.ensures
