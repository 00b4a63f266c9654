use Rattle.milter_text.proofs.Joins.{plain_exact, plain_ignored}
use Rattle.milter_text.proofs.glob_laws.plain_patterns.Goals as goal

pub returns-clause-exact : goal.returns-clause-exact
returns-clause-exact c = plain_exact

pub returns-clause-ignored : goal.returns-clause-ignored
returns-clause-ignored c = plain_ignored
