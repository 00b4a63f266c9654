use Rattle.std.proofs.Common.{◌∙◌, ap}
use Rattle.milter_protocol.specs.GivenAnswers.{given_steps}
use Rattle.milter_protocol.specs.OrderStates.{fresh_in}
use Rattle.milter_protocol.specs.Questions.{answers_in}
use Rattle.milter_filter.proofs.conversation_laws.conversations_reply.Goals as goal

pub returns-clause-replies : goal.returns-clause-replies
returns-clause-replies c = λ order wanted c events input sent p. p.replied

pub returns-clause-commands : goal.returns-clause-commands
returns-clause-commands c = λ order wanted c events input sent p. p.commands

pub returns-clause-in_turn : goal.returns-clause-in_turn
returns-clause-in_turn c = λ order wanted c events input sent p. p.in_turn

pub returns-clause-given : goal.returns-clause-given
returns-clause-given c = λ order wanted d events input sent p.
    p.state ∙ c.answers_in_turn.ensures.kept order wanted events p.in_turn
    ∙ ap (λ rs. (given_steps wanted (fresh_in order) rs (answers_in events)).after) p.commands
