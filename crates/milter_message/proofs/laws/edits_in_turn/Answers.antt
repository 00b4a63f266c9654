use Rattle.milter_message.proofs.EditSequences.{body_in_turn, headers_in_turn, last_reason, recipients_in_turn, sender_in_turn}
use Rattle.milter_message.proofs.laws.edits_in_turn.Goals as goal

pub returns-clause-headers : goal.returns-clause-headers
returns-clause-headers c leading_space headers first second = headers_in_turn leading_space headers first second

pub returns-clause-recipients : goal.returns-clause-recipients
returns-clause-recipients c recipients first second = recipients_in_turn recipients first second

pub returns-clause-sender : goal.returns-clause-sender
returns-clause-sender c leading_space message first second = sender_in_turn message.sender first second

pub returns-clause-body : goal.returns-clause-body
returns-clause-body c leading_space message first second some = body_in_turn message.body first second some

pub returns-clause-quarantine : goal.returns-clause-quarantine
returns-clause-quarantine c leading_space message edits reason = last_reason edits reason
