use Rattle.milter_tests.proofs.Chunks.{chunks-len, two-chunks}
use Rattle.milter_tests.proofs.definitions.planned_sessions.Goals as goal

pub returns-clause-chunks : goal.returns-clause-chunks
returns-clause-chunks c = λ body is. chunks-len 131071 body is

pub returns-clause-two_chunks : goal.returns-clause-two_chunks
returns-clause-two_chunks c = λ body is. chunks-len 65536 body is

pub returns-clause-one_chunk : goal.returns-clause-one_chunk
returns-clause-one_chunk c = λ body is. chunks-len 65535 body is

pub returns-clause-two_chunks_are : goal.returns-clause-two_chunks_are
returns-clause-two_chunks_are c = λ body is. two-chunks body is
