use Rattle.milter_lists.proofs.ListGrammar.{name_plain, source_is, source_read}
use Rattle.milter_lists.proofs.sources.list_lines.Goals as goal

pub returns-clause-read : goal.returns-clause-read
returns-clause-read c = source_read

pub returns-clause-only : goal.returns-clause-only
returns-clause-only c = λ words s is. let w = source_is words s is in (w.words_are, w.is_one)

pub returns-clause-plain : goal.returns-clause-plain
returns-clause-plain c = name_plain
