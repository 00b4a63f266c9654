use Rattle.milter_text.proofs.Joins.{byte_like, like_nothing, nothing_like, one_like, run_like}
use Rattle.milter_text.proofs.glob_laws.short_patterns.Goals as goal

pub returns-clause-none : goal.returns-clause-none
returns-clause-none c = λ case value. (like_nothing case value, nothing_like case value)

pub returns-clause-run : goal.returns-clause-run
returns-clause-run c = run_like

pub returns-clause-byte : goal.returns-clause-byte
returns-clause-byte c = byte_like

pub returns-clause-one : goal.returns-clause-one
returns-clause-one c = one_like
