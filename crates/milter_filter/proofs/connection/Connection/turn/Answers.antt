use Rattle.std.proofs.Common.{◌≡◌, ◌∙◌, refl, subst, sym}
use Rattle.milter_filter.specs.Connections.{Connected, EndsBy, connected}
use Rattle.milter_filter.proofs.connection.Connection.turn.Goals as goal

pub returns-clause-turns : goal.returns-clause-turns
returns-clause-turns g c = λ unended.
    let inside = c.self.inside in
    let unread = g.R.Read.remaining c.args.reader.now in
    let left = g.R.Read.remaining c.run_turn.new.reader in
    let w = g.W.Write.contents c.args.writer.now in
    let v = g.W.Write.contents c.run_turn.new.writer in
    let none = sym c.in_default.is in
    let old_is : connected inside.filter inside.backlog ≡ c.args.self.now = (λ i. record { conversation = inside.filter; waiting = inside.backlog; ended = none i }) ∙ c.self.view_is in
    let ends = subst (λ (old : Connected). EndsBy old unread left w v c.in-Err.end) old_is c.in-Err.ensures.ends in
    (ends.0, (ends.1, refl))
