use Rattle.milter_filter.proofs.Replied.{replied-ends}
use Rattle.milter_filter.proofs.turn_laws.connections_reply.Goals as goal

pub returns-clause-ends : goal.returns-clause-ends
returns-clause-ends c = replied-ends
