use Rattle.milter_wire.proofs.KnownCodes.{commands_known}
use Rattle.milter_wire.proofs.laws.command_codes.Goals as goal

pub returns : goal.returns
returns c = commands_known
