use Rattle.milter_mta_outcome.proofs.ReceivedOptions.{negotiated-on, within-received}
use Rattle.milter_mta_outcome.proofs.laws.received_options.Goals as goal

pub returns-clause-reply : goal.returns-clause-reply
returns-clause-reply c offer reply negotiated e = (negotiated-on offer reply negotiated e).reply_is

pub returns-clause-within : goal.returns-clause-within
returns-clause-within c offer reply negotiated e = (negotiated-on offer reply negotiated e).within

pub returns-clause-received : goal.returns-clause-received
returns-clause-received c offer negotiated is = within-received offer negotiated is
