use Rattle.milter_mta_connection.proofs.LostConnections.{all_stay, fed_lost}
use Rattle.milter_mta_connection.proofs.laws.losses_end_connections.Goals as goal

pub returns-clause-fed : goal.returns-clause-fed
returns-clause-fed c connection bytes loss is = fed_lost connection bytes loss is

pub returns-clause-stays : goal.returns-clause-stays
returns-clause-stays c connection calls is = all_stay calls connection is
