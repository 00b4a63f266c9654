use Rattle.milter_mta_outcome.proofs.NegotiatedOptions.{negotiated-fits, negotiated-received}
use Rattle.milter_mta.proofs.dialogue_laws.lawful_filters_negotiate.Goals as goal

pub returns-clause-received : goal.returns-clause-received
returns-clause-received c offer b lawful from to = negotiated-received offer b lawful.wants from to

pub returns-clause-fits : goal.returns-clause-fits
returns-clause-fits c offer b lawful from to = negotiated-fits offer b lawful.wants from to
