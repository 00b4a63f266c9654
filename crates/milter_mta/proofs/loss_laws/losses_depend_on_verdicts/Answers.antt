use Rattle.milter_mta.proofs.Losses.{lost-over}
use Rattle.milter_mta.proofs.loss_laws.losses_depend_on_verdicts.Goals as goal

pub returns : goal.returns
returns c m filter_connection other loss same = lost-over m filter_connection other same loss
