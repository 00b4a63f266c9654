use Rattle.milter_protocol.proofs.DialogueSteps.{dialogue_with-answered, dialogue_with-ends, dialogue_with-skips}
use Rattle.milter_protocol.proofs.WholeDialogues.{dialogue_with-only, dialogue_with-some, dialogue_with-whole}
use Rattle.milter_protocol.proofs.laws.dialogues.Goals as goal

pub returns-clause-answered : goal.returns-clause-answered
returns-clause-answered c = dialogue_with-answered

pub returns-clause-skipped : goal.returns-clause-skipped
returns-clause-skipped c = dialogue_with-skips

pub returns-clause-ended : goal.returns-clause-ended
returns-clause-ended c b negotiated before commands = dialogue_with-ends b negotiated before commands

pub returns-clause-whole : goal.returns-clause-whole
returns-clause-whole c b negotiated before commands end = dialogue_with-whole b negotiated commands before end

pub returns-clause-only : goal.returns-clause-only
returns-clause-only c b negotiated before commands exchanges is = dialogue_with-only b negotiated commands before exchanges is

pub returns-clause-some : goal.returns-clause-some
returns-clause-some c b negotiated before commands end = dialogue_with-some b negotiated before commands end
