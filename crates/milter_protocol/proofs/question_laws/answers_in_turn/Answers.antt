use Rattle.std.proofs.Common.{ap, ◌∙◌}
use Rattle.milter_protocol.specs.OrderStates.{fresh_in}
use Rattle.milter_protocol.specs.Questions.{AskState, fresh_ask_state}
use Rattle.milter_protocol.specs.Steps.{Step}
use Rattle.milter_protocol.proofs.GivenAnswers.{agrees, reports-keep}
use Rattle.milter_protocol.proofs.question_laws.answers_in_turn.Goals as goal

pub returns-clause-steps : goal.returns-clause-steps
returns-clause-steps c = λ order wanted events turn. (agrees wanted events).free (fresh_in order) turn

pub returns-clause-kept : goal.returns-clause-kept
returns-clause-kept c = λ order wanted events turn.
    reports-keep wanted (fresh_ask_state order) events ∙ ap (λ (x : Step AskState). x.after) ((agrees wanted events).free (fresh_in order) turn)
