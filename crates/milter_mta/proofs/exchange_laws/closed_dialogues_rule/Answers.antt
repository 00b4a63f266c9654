use Rattle.std.proofs.Common.{[], ◌∷◌}
use Rattle.milter_protocol.specs.Dialogue.{dialogue_with}
use Rattle.milter_protocol.proofs.WholeDialogues.{dialogue_with-whole}
use Rattle.milter_mta.proofs.Closed.{closed-rules, dialogue_with-rules}
use Rattle.milter_mta.proofs.exchange_laws.closed_dialogues_rule.Goals as goal

pub returns-clause-dialogue : goal.returns-clause-dialogue
returns-clause-dialogue c [] left leading_space message closed = absurd cc
returns-clause-dialogue c (last ∷ before) left leading_space message closed = closed-rules last before left closed leading_space message

pub returns-clause-whole_dialogue : goal.returns-clause-whole_dialogue
returns-clause-whole_dialogue c b negotiated before commands leading_space message end =
    dialogue_with-rules b negotiated before commands (dialogue_with b negotiated before commands) (dialogue_with-whole b negotiated commands before end) leading_space message
