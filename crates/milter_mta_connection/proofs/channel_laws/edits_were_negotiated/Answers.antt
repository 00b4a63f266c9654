use Rattle.milter_mta_connection.proofs.ReceivedEvents.{permitted-cleared, permitted-received, permitted-without_edits}
use Rattle.milter_mta_connection.proofs.channel_laws.edits_were_negotiated.Goals as goal

pub returns-clause-received : goal.returns-clause-received
returns-clause-received c channel bytes permitted = permitted-received c.received_replies.ensures.permitted channel bytes permitted

pub returns-clause-cleared : goal.returns-clause-cleared
returns-clause-cleared c channel permitted = permitted-cleared channel

pub returns-clause-without_edits : goal.returns-clause-without_edits
returns-clause-without_edits c channel permitted = permitted-without_edits channel
