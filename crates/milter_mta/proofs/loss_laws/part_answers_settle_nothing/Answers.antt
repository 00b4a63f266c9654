use Rattle.std.proofs.Common.{ap}
use Rattle.milter_protocol.specs.Dialogue.{sendable}
use Rattle.milter_mta_outcome.specs.Dialogues.{acted}
use Rattle.milter_mta.specs.Replies.{After}
use Rattle.milter_mta.proofs.ReceivedParts.{part-loses, part-reports, part-waits}
use Rattle.milter_mta.proofs.loss_laws.part_answers_settle_nothing.Goals as goal

pub returns-clause-waits : goal.returns-clause-waits
returns-clause-waits c negotiated dialogue left m edits bytes after is = part-waits negotiated (acted dialogue) (sendable dialogue left) m edits bytes after is

pub returns-clause-goes_on : goal.returns-clause-goes_on
returns-clause-goes_on c negotiated dialogue left m edits bytes after is = ap (λ (a : After). a.loss) is.received_is

pub returns-clause-reports : goal.returns-clause-reports
returns-clause-reports c negotiated dialogue left m edits bytes after is = part-reports negotiated (acted dialogue) (sendable dialogue left) m edits bytes after is

pub returns-clause-losses : goal.returns-clause-losses
returns-clause-losses c negotiated dialogue left m edits bytes after loss is = part-loses negotiated (acted dialogue) (sendable dialogue left) m edits bytes after is loss
