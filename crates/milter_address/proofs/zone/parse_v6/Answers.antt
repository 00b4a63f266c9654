use Rattle.milter_address.proofs.zone.parse_v6.Goals as goal
use Rattle.milter_address.proofs.Numbers.{v6_none}

pub returns-in-Err-clause-none : goal.returns-in-Err-clause-none
returns-in-Err-clause-none c = v6_none _ c.in-Err.ensures
