use Rattle.std.proofs.Common.{rules}
use Rattle.milter_fields.proofs.byte_queue.ByteQueue.make_room.Goals as goal

pub returns-then-self-len : goal.returns-then-self-len
returns-then-self-len c = search rules
