use Rattle.std.proofs.Common.{rules}
use Rattle.milter_fields.proofs.Written.{extends_more}
use Rattle.milter_fields.proofs.sequences.put_strings.Goals as goal

pub returns-in_err-put_string : goal.returns-in_err-put_string
returns-in_err-put_string c = (search rules, extends_more _ _ _ _ c.loop-text.invariant c.put_string.ensures.1)
