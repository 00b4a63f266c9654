use Rattle.milter_message.specs.EditReplies.{edit_of}
use Rattle.milter_mta_outcome.proofs.ReceivedReplies.{asked_only, edit_received_is}
use Rattle.milter_mta_outcome.proofs.laws.received_replies.Goals as goal

pub returns-clause-edit : goal.returns-clause-edit
returns-clause-edit c = λ negotiated stage weight reply edit h.
    let is = edit_received_is negotiated stage weight (edit_of reply) edit h in
    (asked_only reply edit is.found_is, is.room)

pub returns-clause-at_end : goal.returns-clause-at_end
returns-clause-at_end c = λ negotiated stage weight reply edit h. (edit_received_is negotiated stage weight (edit_of reply) edit h).at_end

pub returns-clause-permitted : goal.returns-clause-permitted
returns-clause-permitted c = λ negotiated stage weight reply edit h. (edit_received_is negotiated stage weight (edit_of reply) edit h).permitted
