use Rattle.std.proofs.Common.{refl, subst, ◌∙◌}
use Rattle.milter_filter.specs.ServedConnections.{ServedBy, Serves}
use Rattle.milter_filter.proofs.ServedBytes.{refused-first}
use Rattle.milter_filter.proofs.stream_server.Server.serve.Goals as goal

pub returns-in_default-clause-serves : goal.returns-in_default-clause-serves
returns-in_default-clause-serves g c = (λ other. absurd (other refl), λ refused. refused-first _ _ c.args.self.now.policy _ _)

pub returns-clause-serves : goal.returns-clause-serves
returns-clause-serves g c =
    let left = g.R.Read.remaining c.serve-served.new.reader in
    let written = g.W.Write.contents c.serve-served.new.writer in
    subst
    (λ (by : ServedBy g.row.P.Denot). Serves by.order (g.P.Policy.behavior by.policy) (g.R.Read.remaining c.args.reader.now) left (g.W.Write.contents c.args.writer.now) written c.serve-served.result)
    (c.self.view_is ∙ c.take_core.ensures) c.serve-served.ensures
