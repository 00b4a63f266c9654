use Rattle.std.proofs.Common.{ap, drop, sym, ◌∙◌}
use Rattle.std.proofs.lemmas.List.{drop-drop}
use Rattle.milter_fields.proofs.byte_queue.ByteQueue.advance.Goals as goal

pub returns-else-self-len : goal.returns-else-self-len
returns-else-self-len c =
    sym (drop-drop c.args.count c.self.inside.taken c.self.inside.bytes.items) ∙ ap (drop c.args.count) c.self.view_is
