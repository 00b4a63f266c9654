use Rattle.milter_mta_connection.proofs.Answers.{reply-received}
use Rattle.milter_mta_connection.proofs.answer_laws.replies_are_received.Goals as goal

pub returns : goal.returns
returns c channel event reply owed unread fits = reply-received (λ r fits. c.reply_frames.ensures.frame r fits) channel event reply owed unread fits
