use Rattle.std.proofs.Common.{refl}
use Rattle.milter_protocol.specs.Dialogue.{dialogue_with}
use Rattle.milter_fields.specs.Number.{number}
use Rattle.milter_world.proofs.rows.skipped.Goals as goal

pub returns-clause-skip : goal.returns-clause-skip
unfolding dialogue_with number
returns-clause-skip c = refl

pub returns-clause-no_skip : goal.returns-clause-no_skip
unfolding dialogue_with number
returns-clause-no_skip c = refl

pub returns-clause-chunk_lost : goal.returns-clause-chunk_lost
unfolding dialogue_with number
returns-clause-chunk_lost c = refl
