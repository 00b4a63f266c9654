use Rattle.std.proofs.Common.{◌∙◌, ap}
use Rattle.milter_protocol.specs.Questions.{ProgressReported, event_step}
use Rattle.milter_filter_stream.specs.Conversations.{Conversation, conversation_by, conversation_of}
use Rattle.milter_filter.proofs.filter_connection.FilterConnection.progress.Goals as goal

pub returns-clause-ok : goal.returns-clause-ok
returns-clause-ok c =
    let inside = c.self.inside in
    ap (conversation_of inside.wants) (c.in_ok-put_progress.ensures.ok inside.wants)
    ∙ ap (λ (x : Conversation). conversation_by x (event_step x.wanted x.state ProgressReported)) c.self.view_is
