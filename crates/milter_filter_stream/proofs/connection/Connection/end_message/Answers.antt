use Rattle.std.proofs.Common.{◌≡◌, ap, arith, min}
use Rattle.milter_protocol.specs.OrderStates.{after_message}
use Rattle.milter_filter_stream.proofs.connection.Connection.end_message.Goals as goal

pub returns : goal.returns
returns c =
    let rank = c.self.inside.last_rank in
    let same : min rank 2 ≡ min 2 rank = omega arith in
    rw (c.end_message.ensures.shown, c.end_message.ensures.connection, c.min-self-inside.ensures, same)
    (ap after_message c.self.view_is)
