use Rattle.std.proofs.Common.{refl}
use Rattle.milter_protocol.specs.Dialogue.{dialogue_with}
use Rattle.milter_fields.specs.Number.{number}
use Rattle.milter_world.proofs.rows.undisturbed.Goals as goal

pub returns-clause-eight : goal.returns-clause-eight
unfolding dialogue_with number
returns-clause-eight c = refl

pub returns-clause-seven : goal.returns-clause-seven
unfolding dialogue_with number
returns-clause-seven c = refl

pub returns-clause-none : goal.returns-clause-none
unfolding dialogue_with number
returns-clause-none c = refl

pub returns-clause-no_dial : goal.returns-clause-no_dial
unfolding dialogue_with number
returns-clause-no_dial c = refl

pub returns-clause-ones : goal.returns-clause-ones
unfolding dialogue_with number
returns-clause-ones c = refl

pub returns-clause-too_few : goal.returns-clause-too_few
unfolding dialogue_with number
returns-clause-too_few c = refl
