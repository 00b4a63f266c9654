-- What an answer leaves as it is.
use Rattle.std.proofs.Common.{◌≡◌, Option, None, Some, Result, Ok, Err, OnErr, OnOk, refl, sym, ◌∙◌, subst}
use Rattle.milter_wire.specs.declared.stage.Stage.{Stage}
use Rattle.milter_protocol.specs.declared.answer.Answer.{Answer}
use Rattle.milter_protocol.specs.Questions.{sent_answer}
use Rattle.milter_filter_stream.specs.Conversations.{Conversation, answered}
use Rattle.milter_filter_stream.proofs.UndoneData.{answered-state}
use Rattle.milter_filter.specs.declared.turn.Served.{Served}
use Rattle.milter_filter.specs.Connections.{IsServing, question_by}

-- a question is open only before the end
pub question-asked : (ended : Option Served) (asked : Option Stage) (stage : Stage) → question_by ended asked ≡ Some stage → asked ≡ Some stage
question-asked None asked stage is = is
question-asked (Some end) asked stage is = absurd cc

answered-serves : (c : Conversation) (answer : Answer) → IsServing c → IsServing (answered c answer)
answered-serves c answer s = record {
  serving = answered-state c.state.order_state (sent_answer c.state.order_state.negotiated answer) c.state.asked ∙ s.serving;
  unfinished = s.unfinished;
}

-- answered, where a question is open and nothing fails
module _ {T E : Type 0} (old new : Conversation) (answer_at : Stage → Answer) (s : IsServing old) (unasked : old.state.asked ≡ None → new ≡ old) where
  pub given-serves : (r : Result T E) → OnOk r ((stage : Stage) → old.state.asked ≡ Some stage → new ≡ answered old (answer_at stage)) → OnErr r (new ≡ old) → IsServing new
  given-serves (Err e) ok err = subst IsServing (sym err) s
  given-serves (Ok x) ok err = by_asked old.state.asked refl
    where
      by_asked : (asked : Option Stage) → old.state.asked ≡ asked → IsServing new
      by_asked None is = subst IsServing (sym (unasked is)) s
      by_asked (Some stage) is = subst IsServing (sym (ok stage is)) (answered-serves old (answer_at stage) s)
