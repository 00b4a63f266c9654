use Rattle.milter_mta_connection.proofs.QueuedCommands.{outcome-is}
use Rattle.milter_mta_connection.proofs.laws.verdicts_are_due.Goals as goal

pub returns : goal.returns
returns c stage command pairs connection negotiated is by e = outcome-is stage command pairs connection negotiated is by e
