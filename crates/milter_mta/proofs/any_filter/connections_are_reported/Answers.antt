use Rattle.std.proofs.Common.{refl}
use Rattle.milter_mta.proofs.Connections.{advanced-keeps, dialled-keeps, received-keeps, lost-reported, sent-keeps}
use Rattle.milter_mta.proofs.any_filter.connections_are_reported.Goals as goal

pub returns-clause-fresh : goal.returns-clause-fresh
returns-clause-fresh c config session = record { none = λ e. refl; some = λ verdict e. absurd cc }

pub returns-clause-dialled : goal.returns-clause-dialled
returns-clause-dialled c m is = dialled-keeps m is

pub returns-clause-advanced : goal.returns-clause-advanced
returns-clause-advanced c m is = advanced-keeps m is

pub returns-clause-sent : goal.returns-clause-sent
returns-clause-sent c m count is = sent-keeps m is count

pub returns-clause-received : goal.returns-clause-received
returns-clause-received c m bytes on is =
    received-keeps (record {
      given = c.received_replies.ensures.verdict;
      at_end = c.received_replies.ensures.at_end;
      permitted = c.received_replies.ensures.permitted;
      light = λ negotiated stage weight reply edit e. (c.received_replies.ensures.edit negotiated stage weight reply edit e).1;
      within = c.received_options.ensures.within;
    }) m bytes on is

pub returns-clause-lost : goal.returns-clause-lost
returns-clause-lost c m loss is = lost-reported m is loss
