use Rattle.std.proofs.Common.{refl}
use Rattle.milter_protocol.specs.Dialogue.{dialogue_with}
use Rattle.milter_fields.specs.Number.{number}
use Rattle.milter_world.proofs.rows.settled_before.Goals as goal

pub returns-clause-client : goal.returns-clause-client
unfolding dialogue_with number
returns-clause-client c = refl

pub returns-clause-all_refused : goal.returns-clause-all_refused
unfolding dialogue_with number
returns-clause-all_refused c = refl
