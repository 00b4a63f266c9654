use Rattle.std.specs.Str.{str_to_ascii_lowercase}
use Rattle.milter_address.specs.Address.{bare}
use Rattle.milter_address.proofs.AddressDomains.{box_domain, boxes_same}
use Rattle.milter_address.proofs.CanonicalAddresses.{canonical_again}
use Rattle.milter_address.proofs.laws.canonical_addresses.Goals as goal

pub returns-clause-again : goal.returns-clause-again
returns-clause-again c = canonical_again

pub returns-clause-same : goal.returns-clause-same
returns-clause-same c = λ first second a b is-a is-b same.
    boxes_same (bare (str_to_ascii_lowercase first)) (bare (str_to_ascii_lowercase second)) a b is-a is-b same

pub returns-clause-domain : goal.returns-clause-domain
returns-clause-domain c = λ text box is. box_domain (bare (str_to_ascii_lowercase text)) box is
