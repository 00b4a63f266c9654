use Rattle.std.proofs.Common.{length, sym, ◌∙◌, ap, flat_map, arith, length-append}
use Rattle.milter_wire.specs.Reply.{encoding}
use Rattle.milter_protocol.specs.Questions.{answer_step, sent_answer}
use Rattle.milter_filter_stream.specs.Asking.{Asking}
use Rattle.milter_filter_stream.proofs.UndoneData.{answered-state}
use Rattle.milter_filter_stream.proofs.filter_stream.FilterStream.answer.Goals as goal

pub invariant_of-self-2 : goal.invariant_of-self-2
invariant_of-self-2 c =
    let old = c.self.inside.asker in
    let is = c.in_ok-answer.ensures.ok in
    let sent = sent_answer old.state.order_state.negotiated c.args.answer in
    let step = answer_step old.state c.args.answer in
    let kept = ap (λ (r : Asking). r.state.order_state.state) is ∙ answered-state old.state.order_state sent old.state.asked in
    let more = ap (λ (r : Asking). length r.pending) is ∙ length-append old.pending (flat_map encoding step.replies) in
    let within = c.self.invariant.1 in
    (λ serving. c.self.invariant.0 (sym kept ∙ serving), omega (arith, within, more))
