use Rattle.milter_message.proofs.EditSequences.{asked_back}
use Rattle.milter_message.proofs.laws.edits_of_replies.Goals as goal

pub returns-clause-asked : goal.returns-clause-asked
returns-clause-asked c edit = asked_back edit
