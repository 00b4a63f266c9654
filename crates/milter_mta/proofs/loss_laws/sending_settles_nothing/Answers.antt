use Rattle.milter_mta.proofs.Losses.{lost-sending}
use Rattle.milter_mta.proofs.loss_laws.sending_settles_nothing.Goals as goal

pub returns : goal.returns
returns c m count loss = lost-sending m count loss
