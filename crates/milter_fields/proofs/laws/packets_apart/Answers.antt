use Rattle.milter_fields.proofs.PacketLaws.{packet-same, packet-whole, prefix-unfinished}
use Rattle.milter_fields.proofs.laws.packets_apart.Goals as goal

pub returns-clause-same : goal.returns-clause-same
returns-clause-same c = packet-same

pub returns-clause-whole : goal.returns-clause-whole
returns-clause-whole c = packet-whole

pub returns-clause-unfinished : goal.returns-clause-unfinished
returns-clause-unfinished c = prefix-unfinished
