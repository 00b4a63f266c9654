use Rattle.milter_wire.proofs.ReplyGrammar.{replies_one, replies_whole}
use Rattle.milter_wire.proofs.laws.replies_apart.Goals as goal

pub returns-clause-one : goal.returns-clause-one
returns-clause-one c = replies_one

pub returns-clause-whole : goal.returns-clause-whole
returns-clause-whole c = replies_whole
