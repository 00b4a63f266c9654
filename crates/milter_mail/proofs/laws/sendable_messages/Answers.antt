use Rattle.milter_mail.proofs.Weights.{all_sendable, all_sendable_with}
use Rattle.milter_mail.proofs.laws.sendable_messages.Goals as goal

pub returns-clause-with_overhead : goal.returns-clause-with_overhead
returns-clause-with_overhead c = all_sendable_with

pub returns-clause-in_session : goal.returns-clause-in_session
returns-clause-in_session c = all_sendable
