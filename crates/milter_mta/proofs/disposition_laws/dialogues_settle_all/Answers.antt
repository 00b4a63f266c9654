use Rattle.milter_mta.proofs.Settled.{all-settled-dialogue}
use Rattle.milter_mta.proofs.disposition_laws.dialogues_settle_all.Goals as goal

pub returns : goal.returns
returns c negotiated dialogue m message messages outcome_of all client e is = all-settled-dialogue negotiated dialogue m message outcome_of all client is
