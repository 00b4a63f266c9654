use Rattle.milter_world.proofs.DialogueAnswers.{joined}
use Rattle.milter_world.proofs.filter_laws.dialogues_are_answered.Goals as goal

pub returns : goal.returns
returns c = λ b negotiated session transcript dialogue left at end. (joined b negotiated session left transcript dialogue at end).replied
