use Rattle.std.proofs.Common.{◌≤◌, ◌+◌, Some, sym, ◌∙◌, ap, subst}
use Rattle.std.proofs.lemmas.Option.{same_Some}
use Rattle.milter_wire.specs.BorrowedCommand.{command_of}
use Rattle.milter_message.specs.declared.message.TheConstants.{WEIGHT_MAX}
use Rattle.milter_filter_stream.specs.Asking.{Asking, IsAsked}
use Rattle.milter_filter_stream.proofs.AnswerEffects.{asked-late, question-stage}
use Rattle.milter_filter_stream.proofs.asker.Asker.show.Goals as goal

pub invariant_of-self-2 : goal.invariant_of-self-2
invariant_of-self-2 c = λ stage same.
    let s = c.self.inside.connection in
    let first = c.in-Some.stage in
    let at = sym c.stage.ensures ∙ c.in-Some.is in
    let asked = sym c.question_at.ensures ∙ c.in-Some-question_at.is in
    let one = question-stage s.negotiated first c.in-Some-question_at.stage asked in
    let serving = ap (λ (r : Asking). r.state.order_state.state) c.self.view_is ∙ c.requires.taking.serving in
    subst (IsAsked s) (one ∙ same_Some c.in-Some-question_at.stage stage same)
    (asked-late s (command_of c.args.command.now) first c.args.len serving at (asked ∙ ap Some (sym one)) c.requires.len
    (λ shown. subst (λ (r : Asking). c.args.len + r.state.order_state.shown.bytes ≤ WEIGHT_MAX) (sym c.self.view_is) (c.requires.amount shown)))
