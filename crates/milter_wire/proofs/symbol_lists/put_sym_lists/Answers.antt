use Rattle.std.proofs.Common.{rules}
use Rattle.milter_fields.proofs.Written.{extends_more}
use Rattle.milter_wire.proofs.symbol_lists.put_sym_lists.Goals as goal

pub returns-in_err-put_sym_list : goal.returns-in_err-put_sym_list
returns-in_err-put_sym_list c = (search rules, extends_more _ _ _ _ c.loop-list.invariant c.put_sym_list.ensures.1)
