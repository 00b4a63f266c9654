use Rattle.std.proofs.Common.{refl}
use Rattle.milter_protocol.specs.Dialogue.{dialogue_with}
use Rattle.milter_fields.specs.Number.{number}
use Rattle.milter_world.proofs.rows.lost.Goals as goal

pub returns-clause-accepted : goal.returns-clause-accepted
unfolding dialogue_with number
returns-clause-accepted c = refl

pub returns-clause-late : goal.returns-clause-late
unfolding dialogue_with number
returns-clause-late c = refl

pub returns-clause-not_dialled : goal.returns-clause-not_dialled
unfolding dialogue_with number
returns-clause-not_dialled c = refl

pub returns-clause-no_events : goal.returns-clause-no_events
unfolding dialogue_with number
returns-clause-no_events c = refl

pub returns-clause-no_messages : goal.returns-clause-no_messages
unfolding dialogue_with number
returns-clause-no_messages c = refl

pub returns-clause-died : goal.returns-clause-died
unfolding dialogue_with number
returns-clause-died c = refl

pub returns-clause-over : goal.returns-clause-over
unfolding dialogue_with number
returns-clause-over c = refl

pub returns-clause-twice : goal.returns-clause-twice
unfolding dialogue_with number
returns-clause-twice c = refl
