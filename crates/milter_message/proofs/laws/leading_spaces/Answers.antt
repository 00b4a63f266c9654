use Rattle.milter_message.proofs.LeadingSpaces.{all_whole_fit}
use Rattle.milter_message.proofs.laws.leading_spaces.Goals as goal

pub returns-clause-whole : goal.returns-clause-whole
returns-clause-whole c = all_whole_fit
