-- The answer of a lawful filter, as it is permitted, is received whole: each edit, and then the verdict.
use Rattle.std.proofs.Common.{◌≡◌, ◌≤◌, ◌+◌, ℕ, Bool, true, false, List, [], ◌∷◌, ◌++◌, All, map, Some, Result, Ok, refl, sym, ap, ◌∙◌, arith, append-nil, append_assoc}
use Rattle.std.specs.List.{flat_map, fold}
use Rattle.std.proofs.lemmas.Bool.{true≢false}
use Rattle.std.proofs.lemmas.List.Elements.{All-head, All-tail}
use Rattle.std.proofs.lemmas.List.Sums.{fold-append, sum_by-append, sum_by-cons}
use Rattle.milter_fields.specs.declared.fault.WireFault.{WireFault}
use Rattle.milter_wire.specs.declared.options.Options.{Options}
use Rattle.milter_wire.specs.declared.negotiation.Negotiated.{Negotiated}
use Rattle.milter_wire.specs.declared.reply.Reply.{Reply}
use Rattle.milter_wire.specs.declared.stage.Stage.{Stage}
use Rattle.milter_wire.specs.declared.verdict.Verdict.{Verdict}
use Rattle.milter_wire.specs.Frames.{frame_reply, reply_frame}
use Rattle.milter_wire.specs.Reply.{Fits, encoding}
use Rattle.milter_wire.specs.Verdicts as verdicts
use Rattle.milter_message.specs.declared.edit.Edit.{Edit}
use Rattle.milter_message.specs.declared.message.TheConstants.{WEIGHT_MAX}
use Rattle.milter_message.specs.EditReplies as edits
use Rattle.milter_message.specs.EditReplies.{weight_of}
use Rattle.milter_protocol.specs.declared.answer.Action.{Action}
use Rattle.milter_protocol.specs.declared.answer.Action.TheVariants as received_as
use Rattle.milter_protocol.specs.declared.answer.Answer.{Answer}
use Rattle.milter_protocol.specs.Permitted.{is_permitted}
use Rattle.milter_mta_outcome.specs.declared.loss.MtaFault.{MtaFault}
use Rattle.milter_mta_outcome.specs.ReceivedReplies.{is_end, is_given, reply_received}
use Rattle.milter_mta_outcome.specs.EditWeights.{weight_of_all}
use Rattle.milter_mta_outcome.proofs.ReceivedAnswers.{IsReceived, receives_edit, receives_verdict}
use Rattle.milter_mta_connection.specs.declared.channel_state.ExpectedReply.TheVariants as expects
use Rattle.milter_mta_connection.specs.declared.filter_event.FilterEvent.{FilterEvent}
use Rattle.milter_mta_connection.specs.declared.filter_event.FilterEvent.TheVariants as events
use Rattle.milter_mta_connection.specs.Channel.{Channel, is_owed}
use Rattle.milter_mta_connection.specs.Received.{After, framed, goes_on, received, received_byte, replied}
use Rattle.milter_mta_connection.specs.Received as channels
use Rattle.milter_mta_connection.proofs.ReceivedFrames.{received-packet}
use Rattle.milter_mta_connection.specs.Conversations.{answer_bytes}

-- ---- all replies of an answer

-- a reply that fits is read back from its packet
abbrev pub ReadsBack : Type 0
ReadsBack = (reply : Reply) → Fits reply → frame_reply (reply_frame reply) ≡ Ok reply

pub reply-received : ReadsBack → (c : Channel) (h : FilterEvent) (reply : Reply) → is_owed c ≡ true → c.unread ≡ [] → Fits reply
    → fold received_byte (goes_on h c) (encoding reply) ≡ replied c.expected reply h c
reply-received reads c h reply owed unread fits =
    let same : c ≡ record c { unread = [] } = ap (λ (us : List ℕ). record c { unread = us }) unread in
    ap (λ (k : Channel). fold received_byte (goes_on h k) (encoding reply)) same
    ∙ received-packet (encoding reply) [] h c (reply_frame reply) owed tt fits.payload refl
    ∙ ap (λ (r : Result Reply WireFault). framed r h (record c { unread = [] })) (reads reply fits)
    ∙ ap (λ (k : Channel). replied k.expected reply h k) (sym same)

module _ (offer : Options) (negotiated : Negotiated) where
  -- nothing is pending or unread, and no reply is owed
  abbrev pub idle : List Edit → Channel
  idle so_far =
      record { offer = offer; negotiated = Some negotiated; expected = expects.Nothing; edits = so_far; pending = []; unread = [] }

  -- a verdict on this stage is owed
  abbrev pub waiting : Stage → List Edit → Channel
  waiting stage so_far = record (idle so_far) { expected = expects.Verdict stage }

  module _ (reads : ReadsBack) (stage : Stage) where
    one : (h : FilterEvent) (so_far : List Edit) (reply : Reply) (is : Action) → Fits reply → reply_received negotiated stage (weight_of_all so_far) reply ≡ Ok is
        → fold received_byte (goes_on h (waiting stage so_far)) (encoding reply) ≡ channels.received_as (Ok is) h (waiting stage so_far)
    one h so_far reply is fits found =
        reply-received reads (waiting stage so_far) h reply refl refl fits
        ∙ ap (λ (r : Result Action MtaFault). channels.received_as r h (waiting stage so_far)) found

    replies-received : (more so_far : List Edit) (h : FilterEvent) (verdict : Verdict) → (is_end stage ≡ false → more ≡ [])
        → All (λ edit. is_permitted negotiated edit ≡ true) more → All (λ edit. Fits (edits.reply_of edit)) more
        → weight_of_all so_far + weight_of_all more ≤ WEIGHT_MAX → Fits (verdicts.reply_of verdict) → is_given negotiated stage verdict ≡ true
        → fold received_byte (goes_on h (waiting stage so_far)) (flat_map encoding (map edits.reply_of more ++ verdicts.reply_of verdict ∷ []))
        ≡ goes_on (events.Verdict verdict) (idle (so_far ++ more))
    replies-received [] so_far h verdict end may fit light verdict_fits is =
        ap (fold received_byte (goes_on h (waiting stage so_far))) (append-nil (encoding (verdicts.reply_of verdict)))
        ∙ one h so_far (verdicts.reply_of verdict) (received_as.Verdict verdict) verdict_fits (receives_verdict negotiated stage (weight_of_all so_far) verdict is)
        ∙ ap (λ (es : List Edit). goes_on (events.Verdict verdict) (idle es)) (sym (append-nil so_far))
    replies-received (edit ∷ more) so_far h verdict end may fit light verdict_fits is =
        let sum = sum_by-cons weight_of edit more in
        let longer = sum_by-append weight_of so_far (edit ∷ []) in
        let single = sum_by-cons weight_of edit [] in
        let at_end = is_end_here (is_end stage) refl end in
        fold-append received_byte (goes_on h (waiting stage so_far)) (encoding (edits.reply_of edit)) rest
        ∙ ap (λ (a : After). fold received_byte a rest)
        (one h so_far (edits.reply_of edit) (received_as.Edit edit) (All-head (λ e. Fits (edits.reply_of e)) edit more fit)
        (receives_edit negotiated stage (weight_of_all so_far) edit at_end (All-head (λ e. is_permitted negotiated e ≡ true) edit more may) (omega (arith, sum, light))))
        ∙ replies-received more (so_far ++ edit ∷ []) events.InProgress verdict (λ other. absurd (true≢false (sym at_end ∙ other)))
        (All-tail (λ e. is_permitted negotiated e ≡ true) edit more may) (All-tail (λ e. Fits (edits.reply_of e)) edit more fit)
        (omega (arith, sum, longer, single, light)) verdict_fits is
        ∙ ap (λ (es : List Edit). goes_on (events.Verdict verdict) (idle es)) (append_assoc so_far (edit ∷ []) more)
      where
        rest : List ℕ
        rest = flat_map encoding (map edits.reply_of more ++ verdicts.reply_of verdict ∷ [])

        is_end_here : (b : Bool) → is_end stage ≡ b → (is_end stage ≡ false → edit ∷ more ≡ []) → is_end stage ≡ true
        is_end_here true e none = e
        is_end_here false e none = let no : edit ∷ more ≡ [] = none e in absurd cc

    pub answer-received : (answer : Answer) → IsReceived negotiated stage answer
        → received (waiting stage []) (answer_bytes (Some answer)) ≡ goes_on (events.Verdict answer.verdict) (idle answer.edits)
    answer-received answer is =
        replies-received answer.edits [] events.Nothing answer.verdict is.at_end is.permitted is.edits_fit (light answer.edits is.weight) is.verdict_fits is.given
      where
        light : (es : List Edit) → weight_of_all es ≤ WEIGHT_MAX → weight_of_all [] + weight_of_all es ≤ WEIGHT_MAX
        light es less = omega (arith, less)
