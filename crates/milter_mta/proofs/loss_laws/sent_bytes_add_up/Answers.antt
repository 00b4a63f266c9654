use Rattle.milter_mta.proofs.Losses.{sent-adds}
use Rattle.milter_mta.proofs.loss_laws.sent_bytes_add_up.Goals as goal

pub returns : goal.returns
returns c m count more = sent-adds m count more
