use Rattle.std.proofs.Common.{List, None, Option, ap, ◌∙◌}
use Rattle.milter_message.specs.MailObject.{MailObject}
use Rattle.milter_mta.specs.Mta.{FilterConnection}
use Rattle.milter_mta.specs.Output.{dialled_if, want_in}
use Rattle.milter_mta.proofs.Bare.{offered}
use Rattle.milter_mta.proofs.dialogue_laws.offers_open_sessions.Goals as goal

pub returns-clause-dialled : goal.returns-clause-dialled
returns-clause-dialled c m message messages unconnected e =
    ap (λ (l : Option FilterConnection). dialled_if (want_in l m.session.messages) m) unconnected
    ∙ ap (λ (ms : List MailObject). dialled_if (want_in None ms) m) e

pub returns-clause-opened : goal.returns-clause-opened
returns-clause-opened c m negotiated message messages e fits is =
    offered (λ m filter_connection reply owed unread some fits. c.replies_are_received.ensures m filter_connection reply owed unread some fits) m negotiated message messages e fits is
