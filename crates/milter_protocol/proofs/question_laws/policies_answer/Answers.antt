use Rattle.std.proofs.Common.{ap}
use Rattle.milter_protocol.specs.OrderStates.{fresh_in}
use Rattle.milter_protocol.specs.Questions.{AskState}
use Rattle.milter_protocol.specs.Steps.{Step}
use Rattle.milter_protocol.proofs.PolicyEvents.{commands-with, events-with, in_turn-with}
use Rattle.milter_protocol.proofs.question_laws.policies_answer.Goals as goal

pub returns-clause-commands : goal.returns-clause-commands
returns-clause-commands c = λ b order received. commands-with b (fresh_in order) received

pub returns-clause-in_turn : goal.returns-clause-in_turn
returns-clause-in_turn c = λ b order received. in_turn-with b (fresh_in order) received

pub returns-clause-replies : goal.returns-clause-replies
returns-clause-replies c = λ b order received. ap (λ (x : Step AskState). x.replies) (events-with b (fresh_in order) received)

pub returns-clause-kept : goal.returns-clause-kept
returns-clause-kept c = λ b order received. ap (λ (x : Step AskState). x.after) (events-with b (fresh_in order) received)
