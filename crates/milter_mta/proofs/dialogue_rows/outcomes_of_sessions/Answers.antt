use Rattle.std.proofs.Common.{refl}
use Rattle.milter_protocol.specs.Dialogue.{dialogue_with}
use Rattle.milter_mta.proofs.dialogue_rows.outcomes_of_sessions.Goals as goal

pub returns-clause-passed : goal.returns-clause-passed
unfolding dialogue_with
returns-clause-passed c = refl

pub returns-clause-discarded : goal.returns-clause-discarded
unfolding dialogue_with
returns-clause-discarded c = refl

pub returns-clause-refused : goal.returns-clause-refused
unfolding dialogue_with
returns-clause-refused c = refl

pub returns-clause-none_left : goal.returns-clause-none_left
unfolding dialogue_with
returns-clause-none_left c = refl
