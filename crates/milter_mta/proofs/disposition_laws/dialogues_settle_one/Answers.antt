use Rattle.milter_mta.proofs.Settled.{one-settled-dialogue}
use Rattle.milter_mta.proofs.disposition_laws.dialogues_settle_one.Goals as goal

pub returns : goal.returns
returns c negotiated dialogue m message messages outcome all client e is = one-settled-dialogue negotiated dialogue m message messages outcome all client e is
