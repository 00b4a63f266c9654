use Rattle.milter_address.proofs.Memberships.{mapped_network}
use Rattle.milter_address.proofs.network_laws.families_apart.Goals as goal

pub returns-clause-mapped : goal.returns-clause-mapped
returns-clause-mapped c = mapped_network
