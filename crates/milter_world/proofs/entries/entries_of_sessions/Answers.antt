use Rattle.milter_world.proofs.EntryLines.{lines-are, session-ends}
use Rattle.milter_world.proofs.entries.entries_of_sessions.Goals as goal

pub returns-clause-lines : goal.returns-clause-lines
returns-clause-lines c = lines-are

pub returns-clause-ends : goal.returns-clause-ends
returns-clause-ends c = session-ends
