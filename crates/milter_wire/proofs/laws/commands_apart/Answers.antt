use Rattle.milter_wire.proofs.CommandGrammar.{commands_one, commands_whole}
use Rattle.milter_wire.proofs.laws.commands_apart.Goals as goal

pub returns-clause-one : goal.returns-clause-one
returns-clause-one c = commands_one

pub returns-clause-whole : goal.returns-clause-whole
returns-clause-whole c = commands_whole
