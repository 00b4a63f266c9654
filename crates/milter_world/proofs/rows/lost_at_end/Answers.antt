use Rattle.std.proofs.Common.{refl}
use Rattle.milter_protocol.specs.Dialogue.{dialogue_with}
use Rattle.milter_fields.specs.Number.{number}
use Rattle.milter_world.proofs.rows.lost_at_end.Goals as goal

pub returns-clause-one_edit : goal.returns-clause-one_edit
unfolding dialogue_with number
returns-clause-one_edit c = refl

pub returns-clause-both_edits : goal.returns-clause-both_edits
unfolding dialogue_with number
returns-clause-both_edits c = refl

pub returns-clause-verdict : goal.returns-clause-verdict
unfolding dialogue_with number
returns-clause-verdict c = refl
