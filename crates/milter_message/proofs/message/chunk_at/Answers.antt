use Rattle.std.proofs.Common.{arith, sym}
use Rattle.milter_message.proofs.BodyChunks.{chunk_between, chunk_past}
use Rattle.milter_message.proofs.message.chunk_at.Goals as goal

pub returns-then-start-body : goal.returns-then-start-body
returns-then-start-body c = sym (chunk_past c.args.body.now c.args.k (omega arith))

pub returns : goal.returns
returns c = chunk_between c.args.body.now c.args.k c.saturating_mul-start.result c.min-end.result (omega arith) (omega arith) (omega arith)
