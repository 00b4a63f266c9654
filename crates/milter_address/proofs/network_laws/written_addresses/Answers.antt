use Rattle.milter_address.proofs.Families.{same_address}
use Rattle.milter_address.proofs.network_laws.written_addresses.Goals as goal

pub returns : goal.returns
returns c = same_address
