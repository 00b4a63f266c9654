use Rattle.milter_fields.proofs.StreamLaws.{divide-fault, divide-handed, divide-unfinished, fed_on, length_fault-fed, length_fault-unfinished}
use Rattle.milter_fields.proofs.laws.fed_stream.Goals as goal

pub returns-clause-whole : goal.returns-clause-whole
returns-clause-whole c = fed_on

pub returns-clause-packet : goal.returns-clause-packet
returns-clause-packet c = divide-handed

pub returns-clause-fault : goal.returns-clause-fault
returns-clause-fault c = length_fault-fed

pub returns-clause-no_packet : goal.returns-clause-no_packet
returns-clause-no_packet c = divide-fault

pub returns-clause-unfinished : goal.returns-clause-unfinished
returns-clause-unfinished c = divide-unfinished

pub returns-clause-no_fault : goal.returns-clause-no_fault
returns-clause-no_fault c = length_fault-unfinished
