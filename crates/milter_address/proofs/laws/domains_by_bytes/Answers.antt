use Rattle.milter_address.proofs.ByteSuffixes.{is_under_by_bytes}
use Rattle.milter_address.proofs.laws.domains_by_bytes.Goals as goal

pub returns : goal.returns
returns c = is_under_by_bytes
