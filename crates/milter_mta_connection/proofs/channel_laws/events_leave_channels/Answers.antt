use Rattle.milter_mta_connection.specs.Received.{received}
use Rattle.milter_mta_connection.proofs.LeftChannels.{left-before, left-by, left-received}
use Rattle.milter_mta_connection.proofs.channel_laws.events_leave_channels.Goals as goal

pub returns-clause-left : goal.returns-clause-left
returns-clause-left c channel bytes none =
    let a = received channel bytes in
    left-by a.loss channel a.event a.channel (left-received channel bytes) none

pub returns-clause-lost : goal.returns-clause-lost
returns-clause-lost c channel bytes loss is =
    let a = received channel bytes in
    left-before a.loss channel a.event a.channel loss (left-received channel bytes) is
