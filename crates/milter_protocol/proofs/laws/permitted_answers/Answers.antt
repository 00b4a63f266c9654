use Rattle.std.proofs.lemmas.List.Elements.{filter_passes}
use Rattle.milter_protocol.specs.Permitted.{is_permitted}
use Rattle.milter_protocol.proofs.PermittedEdits.{permitted-again}
use Rattle.milter_protocol.proofs.laws.permitted_answers.Goals as goal

pub returns-clause-edits : goal.returns-clause-edits
returns-clause-edits c negotiated answer = filter_passes (is_permitted negotiated) answer.edits

pub returns-clause-again : goal.returns-clause-again
returns-clause-again c negotiated answer = permitted-again negotiated answer
