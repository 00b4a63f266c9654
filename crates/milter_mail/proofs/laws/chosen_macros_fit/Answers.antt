use Rattle.milter_mail.proofs.ChosenFit.{chosen_macros_fit}
use Rattle.milter_mail.proofs.laws.chosen_macros_fit.Goals as goal

pub returns : goal.returns
returns c = chosen_macros_fit
