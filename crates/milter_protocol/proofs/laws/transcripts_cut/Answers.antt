use Rattle.milter_protocol.proofs.Transcripts.{last-up_to, none-since, since-up_to}
use Rattle.milter_protocol.proofs.laws.transcripts_cut.Goals as goal

pub returns-clause-whole : goal.returns-clause-whole
returns-clause-whole c is_kind transcript = since-up_to is_kind transcript

pub returns-clause-since : goal.returns-clause-since
returns-clause-since c is_kind transcript = none-since is_kind transcript

pub returns-clause-last : goal.returns-clause-last
returns-clause-last c is_kind transcript = last-up_to is_kind transcript
