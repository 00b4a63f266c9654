use Rattle.milter_wire.proofs.KnownNames.{actions_back, protocol_back}
use Rattle.milter_wire.proofs.options_laws.texts_of_known_bits.Goals as goal

pub returns-clause-actions : goal.returns-clause-actions
returns-clause-actions c = actions_back

pub returns-clause-protocol : goal.returns-clause-protocol
returns-clause-protocol c = protocol_back
