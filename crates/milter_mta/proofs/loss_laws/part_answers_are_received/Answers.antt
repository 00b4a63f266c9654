use Rattle.milter_mta.proofs.Bare.{offer-part}
use Rattle.milter_mta.proofs.ReceivedParts.{received-part}
use Rattle.milter_mta.proofs.loss_laws.part_answers_are_received.Goals as goal

pub returns-clause-answer : goal.returns-clause-answer
returns-clause-answer c b negotiated m dialogue command left answer bytes more lawful some stays remains is e =
    received-part (λ m filter_connection reply owed unread some fits. c.replies_are_received.ensures m filter_connection reply owed unread some fits)
    (λ m filter_connection reply bytes more owed unread fits remains e. c.reply_prefixes_are_kept.ensures m filter_connection reply bytes more owed unread fits remains e)
    b lawful negotiated m some dialogue command left stays bytes more remains answer is e

pub returns-clause-offer : goal.returns-clause-offer
returns-clause-offer c m negotiated bytes more fits remains e =
    offer-part (λ m filter_connection reply bytes more owed unread fits remains e. c.reply_prefixes_are_kept.ensures m filter_connection reply bytes more owed unread fits remains e)
    m negotiated bytes more fits remains e
