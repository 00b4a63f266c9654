use Rattle.milter_address.proofs.ip_address.parse_v4.Goals as goal
use Rattle.milter_address.proofs.Numbers.{v4_none}

pub returns-in-Err-clause-none : goal.returns-in-Err-clause-none
returns-in-Err-clause-none c = v4_none _ c.in-Err.ensures
