use Rattle.milter_mta.proofs.Opened.{dialogue-next, dialogue-same}
use Rattle.milter_mta.proofs.exchange_laws.dialogues_of_messages.Goals as goal

pub returns-clause-next : goal.returns-clause-next
returns-clause-next c b negotiated session message other client = dialogue-next b negotiated session message other client

pub returns-clause-same : goal.returns-clause-same
returns-clause-same c b negotiated session message other client = dialogue-same b negotiated session message other client
