use Rattle.std.proofs.Common.{[], refl}
use Rattle.milter_mta.proofs.BegunPlans.{begins}
use Rattle.milter_mta.proofs.dialogue_laws.dialogues_begin_plans.Goals as goal

pub returns : goal.returns
returns c b negotiated plan = begins b negotiated plan [] refl
