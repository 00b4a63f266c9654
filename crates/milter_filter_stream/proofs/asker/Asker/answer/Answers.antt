use Rattle.std.proofs.Common.{◌≡◌, ◌++◌, None, Some, sym, ◌∙◌, ap, flat_map}
use Rattle.std.specs.Option.{option_copied}
use Rattle.milter_wire.specs.Reply.{encoding}
use Rattle.milter_protocol.specs.Questions.{answer_step, answered_to, sent_answer}
use Rattle.milter_protocol.specs.Replies.{replies_of_answer}
use Rattle.milter_filter_stream.specs.Asking.{Asking, asking_step, with_effect}
use Rattle.milter_filter_stream.proofs.AnswerEffects.{effects-are}
use Rattle.milter_filter_stream.proofs.asker.Asker.answer.Goals as goal

pub returns-clause-ok : goal.returns-clause-ok
returns-clause-ok c =
    let inside = c.self.inside in
    let s = inside.connection in
    let n = c.in-Some.negotiated.now in
    let answer = c.args.answer in
    let stage = c.args.stage in
    let some : s.negotiated ≡ Some n = sym c.negotiated.ensures ∙ ap option_copied c.in-Some.is in
    let at = ap (λ (r : Asking). r.state.asked) c.self.view_is ∙ c.requires.asked in
    let kept : c.apply_effect.new.self ≡ answered_to s (sent_answer s.negotiated answer) inside.asked =
    c.apply_effect.ensures
    ∙ ap (with_effect s) c.effect_at-effect.ensures
    ∙ sym (effects-are s n answer stage)
    ∙ ap (λ m. answered_to s (sent_answer m answer) (Some stage)) (sym some)
    ∙ ap (answered_to s (sent_answer s.negotiated answer)) (sym at) in
    let put : c.put_answer.new.out.items ≡ inside.pending.items ++ flat_map encoding (replies_of_answer (sent_answer s.negotiated answer)) =
    c.in_ok-put_answer.ensures.ok
    ∙ ap (λ m. inside.pending.items ++ flat_map encoding (replies_of_answer (sent_answer m answer))) (sym some) in
    (λ i. let r : Asking = record { state = record { order_state = kept i; asked = None }; pending = put i } in r)
    ∙ ap (λ (r : Asking). asking_step r (answer_step r.state answer)) c.self.view_is
