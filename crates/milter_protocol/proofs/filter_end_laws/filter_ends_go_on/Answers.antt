use Rattle.milter_protocol.specs.FilterEnds.{step}
use Rattle.milter_protocol.proofs.StepSequences.{after-append, replies-append}
use Rattle.milter_protocol.proofs.filter_end_laws.filter_ends_go_on.Goals as goal

pub returns-clause-filter_end : goal.returns-clause-filter_end
returns-clause-filter_end c = λ b. after-append (step b)

pub returns-clause-replies : goal.returns-clause-replies
returns-clause-replies c = λ b. replies-append (step b)
