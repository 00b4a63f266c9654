use Rattle.std.proofs.Common.{List, [], Some, false, ap, ◌∙◌, ◌≡◌, arith}
use Rattle.std.proofs.lemmas.Grind.{common_steps}
use Rattle.milter_wire.specs.declared.stage.Stage.TheVariants.{Connect}
use Rattle.milter_wire.specs.declared.negotiation.Negotiated.{Negotiated}
use Rattle.milter_mail.specs.MailSession.{MailSession}
use Rattle.milter_mta_outcome.specs.declared.acted_verdicts.Acted.{Acted}
use Rattle.milter_mta.specs.declared.state.FilterConnection.{FilterConnection as Connected}
use Rattle.milter_mta.specs.declared.state.SessionState.{SessionState}
use Rattle.milter_mta.specs.Accounts.{Accounts}
use Rattle.milter_mta.specs.CoreParts.{begun_position, mta_at, session_of, unconnected}
use Rattle.milter_mta.specs.Mta.{Position, connection_at}
use Rattle.milter_mta.specs.Replies.{opening_position}
use Rattle.milter_mta.proofs.Begun.{begun_mta, begun_opening}
use Rattle.milter_mta.proofs.state.SessionState.open.Goals as goal

pub returns-clause-opened : goal.returns-clause-opened
returns-clause-opened c =
    let queue = c.take_roomy.new.self in
    let state : SessionState = record c.args.self.now { queue = queue } in
    let session : MailSession = session_of state.client_info queue.waiting in
    let position : Accounts → Position = λ l. opening_position c.in-Ok.negotiated (session_of state.client_info l.waiting) l.waiting in
    let none : c.new-acted.result ≡ [] = c.new-acted.ensures ∙ c.take_roomy.ensures.empty in
    let at = c.begin.ensures.position
    ∙ ap (λ (acted : List Acted). begun_position Connect c.in-Ok.negotiated acted session queue.waiting) none
    ∙ begun_opening c.in-Ok.negotiated session queue.waiting in
    let begun = begun_mta state c.begin.new.self c.begin.result false (position queue) c.begin.ensures.same c.begin.ensures.messages at in
    ap (λ (l : Connected). mta_at c.begin.new.self l) c.at.ensures
    ∙ begun
    ∙ ap (λ (l : Accounts). record (unconnected (record c.args.self.now { queue = l }) []) { filter_connection = Some (connection_at false (position l)) })
    c.take_roomy.ensures.same
    ∙ ap (λ (n : Negotiated). record (unconnected c.args.self.now []) { filter_connection = Some (connection_at false (opening_position n (session_of c.args.self.now.client_info c.args.self.now.queue.waiting) c.args.self.now.queue.waiting)) }) c.in-Ok.ensures.negotiated

pub begin-requires-clause-chosen : goal.begin-requires-clause-chosen
begin-requires-clause-chosen c = grind (arith, common_steps)
