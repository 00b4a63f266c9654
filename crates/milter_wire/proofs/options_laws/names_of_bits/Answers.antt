use Rattle.milter_wire.proofs.SetLaws.{names_known, names_set}
use Rattle.milter_wire.proofs.options_laws.names_of_bits.Goals as goal

pub returns-clause-names : goal.returns-clause-names
returns-clause-names c = names_set

pub returns-clause-unknown : goal.returns-clause-unknown
returns-clause-unknown c = names_known
