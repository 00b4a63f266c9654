use Rattle.milter_text.specs.Lines.{contents}
use Rattle.milter_world.proofs.FileLaws.{at_fault, events_same}
use Rattle.milter_world.proofs.laws.events_of_files.Goals as goal

pub returns-clause-only : goal.returns-clause-only
returns-clause-only c = λ bytes events others h k. events_same (contents bytes) events others h k

pub returns-clause-none : goal.returns-clause-none
returns-clause-none c = λ bytes fault events stops other have. other (at_fault (contents bytes) fault events stops have)
