use Rattle.milter_mta.proofs.AnyFilter.{advanced-goes, dialled-goes, done-settles, received-goes, sent-goes}
use Rattle.milter_mta.proofs.Dispositions.{goes-on, lost-goes, stays}
use Rattle.milter_mta.proofs.any_filter.messages_are_settled_by_dialogues.Goals as goal

pub returns-clause-fresh : goal.returns-clause-fresh
returns-clause-fresh c config session = tt

pub returns-clause-dialled : goal.returns-clause-dialled
returns-clause-dialled c m on = dialled-goes m on

pub returns-clause-advanced : goal.returns-clause-advanced
returns-clause-advanced c m on = advanced-goes m on

pub returns-clause-sent : goal.returns-clause-sent
returns-clause-sent c m count on = sent-goes m count on

pub returns-clause-received : goal.returns-clause-received
returns-clause-received c m bytes on =
    received-goes (record {
      given = c.received_replies.ensures.verdict;
      at_end = c.received_replies.ensures.at_end;
      permitted = c.received_replies.ensures.permitted;
      light = λ negotiated stage weight reply edit e. (c.received_replies.ensures.edit negotiated stage weight reply edit e).1;
      within = c.received_options.ensures.within;
    }) m bytes on

pub returns-clause-lost : goal.returns-clause-lost
returns-clause-lost c m loss on = lost-goes m loss on

pub returns-clause-stays : goal.returns-clause-stays
returns-clause-stays c m on = stays m on

pub returns-clause-goes_on : goal.returns-clause-goes_on
returns-clause-goes_on c old between new first next = goes-on old between new first next

pub returns-clause-done : goal.returns-clause-done
returns-clause-done c m on e = done-settles m on e
