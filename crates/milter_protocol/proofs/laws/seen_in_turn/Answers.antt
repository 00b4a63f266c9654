use Rattle.milter_protocol.proofs.SeenCommands.{seen-with, value-append}
use Rattle.milter_protocol.proofs.laws.seen_in_turn.Goals as goal

pub returns-clause-seen : goal.returns-clause-seen
returns-clause-seen c = seen-with

pub returns-clause-last_value : goal.returns-clause-last_value
returns-clause-last_value c = value-append
