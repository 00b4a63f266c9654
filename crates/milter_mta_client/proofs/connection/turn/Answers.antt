use Rattle.std.proofs.Common.{sym, ◌∙◌}
use Rattle.milter_mta_client.proofs.ConnectionTurns.{receives-turns, transmits-turns}
use Rattle.milter_mta_client.proofs.connection.turn.Goals as goal

pub returns-in-Send : goal.returns-in-Send
returns-in-Send g c =
    transmits-turns _ _ c.args.core.now c.transmit.new.core c.transmit.result c.requires (sym c.want.ensures ∙ c.in-Send.is) c.transmit.ensures

pub returns-in-Receive : goal.returns-in-Receive
returns-in-Receive g c = receives-turns _ _ c.args.core.now c.receive.new.core c.receive.result c.requires c.receive.ensures
