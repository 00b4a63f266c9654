use Rattle.std.proofs.Common.{refl}
use Rattle.milter_mta.proofs.Bare.{aborted, quitted}
use Rattle.milter_mta.proofs.dialogue_laws.lines_without_answers.Goals as goal

pub returns-clause-abort : goal.returns-clause-abort
returns-clause-abort c m position = aborted m position

pub returns-clause-quit : goal.returns-clause-quit
returns-clause-quit c m = quitted m

pub returns-clause-done : goal.returns-clause-done
returns-clause-done c m = refl
