use Rattle.std.proofs.Common.{Bool, [], Some, not, ap, ◌∙◌}
use Rattle.milter_mail.specs.MailSession.{MailSession}
use Rattle.milter_mta.specs.CoreParts.{session_of, unconnected}
use Rattle.milter_mta.specs.Mta.{connection_at}
use Rattle.milter_mta.specs.Dispositions.{next_message}
use Rattle.milter_mta.proofs.Begun.{begun_mta, begun_next}
use Rattle.milter_mta.proofs.state.SessionState.next_transaction.Goals as goal

pub returns-clause-next : goal.returns-clause-next
returns-clause-next c =
    let waiting = c.args.self.now.queue.waiting in
    let session : MailSession = session_of c.args.self.now.client_info waiting in
    let position = next_message c.args.negotiated c.args.opened session waiting in
    begun_mta c.args.self.now c.begin.new.self c.begin.result (not c.is_end.result) position c.begin.ensures.same c.begin.ensures.messages
    (c.begin.ensures.position ∙ begun_next c.args.negotiated c.args.opened session waiting)
    ∙ ap (λ (b : Bool). record (unconnected c.args.self.now []) { filter_connection = Some (connection_at (not b) position) }) c.is_end.ensures
