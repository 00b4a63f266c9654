use Rattle.std.proofs.Common.{ap, ◌∙◌}
use Rattle.milter_world.proofs.world.World.into_reports.Goals as goal

pub returns-clause-connection : goal.returns-clause-connection
returns-clause-connection g c = c.into_reports.ensures.connection ∙ ap (λ ends. ends.mta.connection) c.self.view_is

pub returns-clause-messages : goal.returns-clause-messages
returns-clause-messages g c = c.into_reports.ensures.messages ∙ ap (λ ends. ends.mta.reports) c.self.view_is
