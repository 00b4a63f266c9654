use Rattle.std.proofs.Common.{◌+◌}
use Rattle.std.proofs.lemmas.List.{take_rest}
use Rattle.milter_address.proofs.Cuts.{cut_found, one_part}
use Rattle.milter_address.proofs.splits.cut.Goals as goal

pub returns-in-Some : goal.returns-in-Some
returns-in-Some c =
    rw (take_rest c.args.bytes.now (c.in-Some.end + 1))
    (cut_found c.args.separator c.args.bytes.now c.in-Some.end c.in-Some.ensures)

pub returns-in-None : goal.returns-in-None
returns-in-None c = one_part c.args.separator c.args.bytes.now c.in-None.ensures
