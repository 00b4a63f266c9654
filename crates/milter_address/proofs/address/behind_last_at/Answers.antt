use Rattle.std.proofs.Common.{◌+◌}
use Rattle.std.proofs.lemmas.List.{take_rest}
use Rattle.milter_address.proofs.LastAt.{behind_found, behind_nowhere}
use Rattle.milter_address.proofs.address.behind_last_at.Goals as goal

pub returns-in-Some : goal.returns-in-Some
returns-in-Some c =
    rw (take_rest c.args.bytes.now (c.in-Some.at + 1)) (behind_found c.args.bytes.now c.in-Some.at c.in-Some.ensures)

pub returns-in-None : goal.returns-in-None
returns-in-None c = behind_nowhere c.args.bytes.now c.in-None.ensures
