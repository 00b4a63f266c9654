use Rattle.milter_mta.proofs.Played.{played}
use Rattle.milter_mta.proofs.dialogue_laws.dialogues_are_played.Goals as goal

pub returns-clause-plays : goal.returns-clause-plays
returns-clause-plays c b negotiated m dialogue left lawful some is =
    (played (λ m filter_connection reply owed unread some fits. c.replies_are_received.ensures m filter_connection reply owed unread some fits) b lawful negotiated m some left dialogue is.proper is.in_order is.ends).plays

pub returns-clause-dialogue : goal.returns-clause-dialogue
returns-clause-dialogue c b negotiated m dialogue left lawful some is =
    let all = played (λ m filter_connection reply owed unread some fits. c.replies_are_received.ensures m filter_connection reply owed unread some fits) b lawful negotiated m some left dialogue is.proper is.in_order is.ends in
    record { proper = all.all; in_order = all.order }
