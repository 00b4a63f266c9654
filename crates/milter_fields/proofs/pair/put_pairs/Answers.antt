use Rattle.std.proofs.Common.{rules}
use Rattle.milter_fields.proofs.Written.{extends_more}
use Rattle.milter_fields.proofs.pair.put_pairs.Goals as goal

pub returns-in_err-put : goal.returns-in_err-put
returns-in_err-put c = (search rules, extends_more _ _ _ _ c.loop-value.invariant c.put.ensures.1)
