use Rattle.milter_world.proofs.CountedBytes.{owed-due}
use Rattle.milter_world.proofs.entries.counts_of_bytes.Goals as goal

pub returns : goal.returns
returns c = owed-due
