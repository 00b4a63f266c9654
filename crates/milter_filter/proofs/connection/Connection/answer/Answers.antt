use Rattle.std.proofs.Common.{ap, ◌∙◌}
use Rattle.std.proofs.lemmas.Result.{on_ok_weaker}
use Rattle.milter_filter.specs.Connections.{Connected}
use Rattle.milter_filter.proofs.Answered.{question-asked}
use Rattle.milter_filter.proofs.connection.Connection.answer.Goals as goal

pub returns-clause-breaks : goal.returns-clause-breaks
returns-clause-breaks c = λ stage is.
    let now = c.args.self.now in
    c.answer.ensures.breaks stage
    (ap (λ (x : Connected). x.conversation.state.asked) c.self.view_is ∙ question-asked now.ended now.conversation.state.asked stage is)

pub returns-clause-fits : goal.returns-clause-fits
returns-clause-fits c =
    let now = c.args.self.now in
    on_ok_weaker c.answer.result
    (λ law stage is. law stage (ap (λ (x : Connected). x.conversation.state.asked) c.self.view_is ∙ question-asked now.ended now.conversation.state.asked stage is))
    c.answer.ensures.fits
