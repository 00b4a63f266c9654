use Rattle.milter_mta_connection.proofs.Answers.{ReadsBack}
use Rattle.milter_mta_connection.proofs.CalledMessages.{call-left-out, call-sent, packets-pending}
use Rattle.milter_mta_connection.proofs.dialogue_laws.calls_are_exchanges.Goals as goal

pub returns-clause-packets : goal.returns-clause-packets
returns-clause-packets c connection command pairs none = packets-pending command pairs connection none

pub returns-clause-left_out : goal.returns-clause-left_out
returns-clause-left_out c b negotiated stage command pairs t lawful at_stage quiet taken_at no_abort left_out =
    let reads : ReadsBack = λ r fits. c.reply_frames.ensures.frame r fits in
    call-left-out reads b lawful negotiated stage command pairs t at_stage quiet taken_at no_abort left_out

pub returns-clause-sent : goal.returns-clause-sent
returns-clause-sent c b negotiated stage command pairs t lawful at_stage quiet taken_at no_abort left_out =
    let reads : ReadsBack = λ r fits. c.reply_frames.ensures.frame r fits in
    call-sent reads b lawful negotiated stage command pairs t at_stage quiet taken_at no_abort left_out
