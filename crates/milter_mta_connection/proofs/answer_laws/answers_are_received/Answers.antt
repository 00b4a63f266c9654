use Rattle.std.proofs.Common.{◌≡◌, List, [], ℕ, Option, Some, ap, sym, subst, ◌∙◌}
use Rattle.milter_wire.specs.declared.negotiation.Negotiated.{Negotiated}
use Rattle.milter_message.specs.declared.edit.Edit.{Edit}
use Rattle.milter_protocol.specs.Permitted.{permitted}
use Rattle.milter_mta_connection.specs.declared.channel_state.ExpectedReply.{ExpectedReply}
use Rattle.milter_mta_connection.specs.declared.channel_state.ExpectedReply.TheVariants as expects
use Rattle.milter_mta_connection.specs.declared.filter_event.FilterEvent.TheVariants as events
use Rattle.milter_mta_connection.specs.Channel.{Channel}
use Rattle.milter_mta_connection.specs.Received.{goes_on, received}
use Rattle.milter_mta_connection.specs.Conversations.{answer_bytes}
use Rattle.milter_mta_outcome.proofs.ReceivedAnswers.{permitted-received}
use Rattle.milter_mta_connection.proofs.Answers.{ReadsBack, answer-received, waiting}
use Rattle.milter_mta_connection.proofs.answer_laws.answers_are_received.Goals as goal

pub returns : goal.returns
returns c k negotiated stage answer negotiated_is expected_is none_yet sent_whole none_unread fits =
    let reads : ReadsBack = λ r fits. c.reply_frames.ensures.frame r fits in
    let same : k ≡ waiting k.offer negotiated stage [] =
    ap (λ (n : Option Negotiated). record k { negotiated = n }) negotiated_is
    ∙ ap (λ (x : ExpectedReply). record k { negotiated = Some negotiated; expected = x }) expected_is
    ∙ ap (λ (es : List Edit). record k { negotiated = Some negotiated; expected = expects.Verdict stage; edits = es }) none_yet
    ∙ ap (λ (p : List ℕ). record k { negotiated = Some negotiated; expected = expects.Verdict stage; edits = []; pending = p }) sent_whole
    ∙ ap (λ (u : List ℕ). record k { negotiated = Some negotiated; expected = expects.Verdict stage; edits = []; pending = []; unread = u }) none_unread in
    subst (λ (k : Channel). received k (answer_bytes (Some (permitted negotiated answer)))
    ≡ goes_on (events.Verdict (permitted negotiated answer).verdict) (record k { expected = expects.Nothing; edits = (permitted negotiated answer).edits }))
    (sym same)
    (answer-received k.offer negotiated reads stage (permitted negotiated answer) (permitted-received negotiated stage answer fits))
