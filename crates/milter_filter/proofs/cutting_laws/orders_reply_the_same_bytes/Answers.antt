use Rattle.std.proofs.Common.{sym, ◌∙◌, ap}
use Rattle.std.specs.List.{flat_map}
use Rattle.milter_wire.specs.Reply.{encoding}
use Rattle.milter_protocol.specs.declared.stage_order.CommandOrder.TheVariants.{Strict}
use Rattle.milter_filter_stream.specs.Streams.{received_in}
use Rattle.milter_filter.proofs.cutting_laws.orders_reply_the_same_bytes.Goals as goal

pub returns-clause-state : goal.returns-clause-state
returns-clause-state c = λ b order input alike.
    let rs = received_in input in
    let each = c.lenient_orders.ensures.state b in
    sym (each order rs) ∙ c.orders_reply_the_same.ensures.state b order rs alike ∙ each Strict rs

pub returns-clause-replies : goal.returns-clause-replies
returns-clause-replies c = λ b order input alike.
    let rs = received_in input in
    let each = c.lenient_orders.ensures.replies b in
    ap (flat_map encoding) (sym (each order rs) ∙ c.orders_reply_the_same.ensures.replies b order rs alike ∙ each Strict rs)
