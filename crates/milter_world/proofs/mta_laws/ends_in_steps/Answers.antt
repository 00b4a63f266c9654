use Rattle.milter_world.proofs.Steps.{advanced-again, want-sent}
use Rattle.milter_world.proofs.mta_laws.ends_in_steps.Goals as goal

pub returns-clause-again : goal.returns-clause-again
returns-clause-again c = advanced-again

pub returns-clause-want : goal.returns-clause-want
returns-clause-want c = want-sent
