use Rattle.milter_text.proofs.Joins.{joined_like, split_like}
use Rattle.milter_text.proofs.glob_laws.joined_patterns.Goals as goal

pub returns-clause-joined : goal.returns-clause-joined
returns-clause-joined c = joined_like

pub returns-clause-only : goal.returns-clause-only
returns-clause-only c = split_like
