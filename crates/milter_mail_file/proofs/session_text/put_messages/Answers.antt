use Rattle.milter_mail_file.specs.SessionText.{message_text}
use Rattle.milter_text.proofs.TextWriters.{Progress-fail, Progress-next, Progress-none, flat_map-next}
use Rattle.milter_mail_file.proofs.session_text.put_messages.Goals as goal

pub loop-message-init : goal.loop-message-init
loop-message-init g c = Progress-none

pub returns-in_err-put_file_message : goal.returns-in_err-put_file_message
returns-in_err-put_file_message g c =
    let next = flat_map-next message_text c.args.messages.now c.loop-message.message-index c.message-item.result c.loop-message-test.true c.message-item.is in
    Progress-fail _ _ _ (message_text c.message-item.result) _ c.loop-message.invariant c.in_err-put_file_message.ensures c.from_residual.ensures.0 next

pub loop-message-preserved : goal.loop-message-preserved
loop-message-preserved g c =
    let next = flat_map-next message_text c.args.messages.now c.loop-message.message-index c.message-item.result c.loop-message-test.true c.message-item.is in
    Progress-next (message_text c.message-item.result) _ c.loop-message.invariant c.in_ok-put_file_message.ensures next
