-- What is left of a channel by what is received on it.
use Rattle.std.proofs.Common.{◌≡◌, ◌≢◌, ℕ, Bool, true, false, List, [], ◌∷◌, ◌++◌, Option, None, Some, Result, Ok, Err, refl, sym, ◌∙◌, ap, subst}
use Rattle.std.specs.Prelude.{if◌then◌else◌}
use Rattle.std.specs.List.{fold}
use Rattle.milter_fields.specs.declared.fault.WireFault.{WireFault}
use Rattle.milter_fields.specs.Stream.{Frame, first_frame, length_fault}
use Rattle.milter_wire.specs.declared.negotiation.Negotiated.{Negotiated}
use Rattle.milter_wire.specs.declared.reply.Reply.{Reply}
use Rattle.milter_wire.specs.declared.stage.Stage.{Stage}
use Rattle.milter_wire.specs.declared.stage.Stage.TheVariants.{Rcpt}
use Rattle.milter_wire.specs.Frames.{frame_reply}
use Rattle.milter_message.specs.declared.edit.Edit.{Edit}
use Rattle.milter_protocol.specs.declared.answer.Action.{Action}
use Rattle.milter_protocol.specs.declared.answer.Action.TheVariants as actions
use Rattle.milter_mta_outcome.specs.declared.loss.Loss.{Loss}
use Rattle.milter_mta_outcome.specs.declared.loss.MtaFault.{MtaFault}
use Rattle.milter_mta_outcome.specs.declared.loss.MtaFault.TheVariants.{Early, NotAtThisStage, Wire}
use Rattle.milter_mta_outcome.specs.ReceivedReplies.{options_received, reply_received}
use Rattle.milter_mta_outcome.specs.EditWeights.{weight_of_all}
use Rattle.milter_mta_connection.specs.declared.channel_state.ExpectedReply.{ExpectedReply}
use Rattle.milter_mta_connection.specs.declared.channel_state.ExpectedReply.TheVariants as expects
use Rattle.milter_mta_connection.specs.declared.filter_event.FilterEvent.{FilterEvent}
use Rattle.milter_mta_connection.specs.declared.filter_event.FilterEvent.TheVariants as events
use Rattle.milter_mta_connection.specs.Channel.{Channel, is_expecting, is_owed, is_owed_by}
use Rattle.milter_mta_connection.specs.Received.{After, ended, fails, framed, goes_on, negotiated_on, received, received_as, received_byte, replied, replied_at, unread_is}
use Rattle.milter_mta_connection.specs.ReplyRules.{IsLeftBy, IsWaiting}

-- without a loss, or before it
pub record IsLeftBefore (c : Channel) (h : FilterEvent) (k : Channel) : Type 0 where
  pub before : Channel
  pub left : IsLeftBy h c before
  pub ended_is : k ≡ ended h before

abbrev pub Left : Option Loss → Channel → FilterEvent → Channel → Type 0
Left None c h k = IsLeftBy h c k
Left (Some loss) c h k = IsLeftBefore c h k

abbrev LeftOf : Channel → After → Type 0
LeftOf c a = Left a.loss c a.event a.channel

owed-expecting : (expected : ExpectedReply) (pending : List ℕ) → is_owed_by expected pending ≡ true → is_expecting expected ≡ true
owed-expecting expected [] owed = owed
owed-expecting expected (x ∷ pending) owed = absurd cc

-- after a verdict or the options nothing is expected
waits : (c k : Channel) (h : FilterEvent) → IsLeftBy h c k → is_owed k ≡ true → IsWaiting h
waits c k events.Nothing left owed = tt
waits c k events.InProgress left owed = tt
waits c k events.Negotiated left owed =
    absurd (none (ap (λ (d : Channel). d.expected) left.2) (owed-expecting k.expected k.pending owed))
  where
    none : k.expected ≡ expects.Nothing → is_expecting k.expected ≡ true → ⊥
    none is expecting = absurd (no (subst (λ (e : ExpectedReply). is_expecting e ≡ true) is expecting))
      where
        no : is_expecting expects.Nothing ≡ true → ⊥
        no e = absurd cc
waits c k (events.Verdict verdict) left owed =
    absurd (none (ap (λ (d : Channel). d.expected) left) (owed-expecting k.expected k.pending owed))
  where
    none : k.expected ≡ expects.Nothing → is_expecting k.expected ≡ true → ⊥
    none is expecting = absurd (no (subst (λ (e : ExpectedReply). is_expecting e ≡ true) is expecting))
      where
        no : is_expecting expects.Nothing ≡ true → ⊥
        no e = absurd cc

-- while it waits the same reply is expected, and while that is the options no edit comes
record Waits (c k : Channel) : Type 0 where
  same : k ≡ record c { edits = k.edits; unread = k.unread }
  no_edit : k.expected ≡ expects.Options → k.edits ≡ c.edits

waiting : (c k : Channel) (h : FilterEvent) → IsWaiting h → IsLeftBy h c k → Waits c k
waiting c k events.Nothing w left = record { same = ap (λ (d : Channel). record d { edits = k.edits }) left; no_edit = λ e. ap (λ (d : Channel). d.edits) left }
waiting c k events.InProgress w left = record { same = left.1; no_edit = λ e. absurd (left.0 (sym (ap (λ (d : Channel). d.expected) left.1) ∙ e)) }
waiting c k events.Negotiated w left = absurd w
waiting c k (events.Verdict verdict) w left = absurd w

-- more bytes of a reply came
kept_by : (c k : Channel) (h : FilterEvent) (now : List ℕ) → IsWaiting h → IsLeftBy h c k → IsLeftBy h c (record k { unread = now })
kept_by c k events.Nothing now w left = ap (λ (d : Channel). record d { unread = now }) left
kept_by c k events.InProgress now w left = (left.0, ap (λ (d : Channel). record d { unread = now }) left.1)
kept_by c k events.Negotiated now w left = absurd w
kept_by c k (events.Verdict verdict) now w left = absurd w

module _ (c : Channel) (h : FilterEvent) (k : Channel) (left : IsLeftBy h c k) where
  left-lost : (fault : MtaFault) → LeftOf c (fails fault h k)
  left-lost fault = record { before = k; left = left; ended_is = refl }

  module _ (w : IsWaiting h) (waits : Waits c k) where
    same : k ≡ record c { edits = k.edits; unread = k.unread }
    same = waits.same

    left-action : (action : Result Action MtaFault) → k.expected ≢ expects.Options → LeftOf c (received_as action h k)
    left-action (Err fault) other = left-lost fault
    left-action (Ok (actions.Edit edit)) other = (λ e. other (ap (λ (d : Channel). d.expected) same ∙ e), ap (λ (d : Channel). record d { edits = k.edits ++ edit ∷ []; unread = [] }) same)
    left-action (Ok (actions.Verdict verdict)) other = ap (λ (d : Channel). record d { expected = expects.Nothing; edits = k.edits; unread = [] }) same

    left-options : (result : Result Negotiated MtaFault) → k.expected ≡ expects.Options → LeftOf c (negotiated_on result h k)
    left-options (Err fault) is = left-lost fault
    left-options (Ok negotiated) is =
        (negotiated, sym (ap (λ (d : Channel). d.expected) same) ∙ is, ap (λ (d : Channel). record d { negotiated = Some negotiated; expected = expects.Nothing; edits = k.edits; unread = [] }) same ∙ ap (λ (es : List Edit). record c { negotiated = Some negotiated; expected = expects.Nothing; edits = es; unread = [] }) (waits.no_edit is))

    left-at : (stage : Stage) (negotiated : Option Negotiated) (reply : Reply) → k.expected ≢ expects.Options → LeftOf c (replied_at negotiated stage reply h k)
    left-at stage None reply other = left-lost NotAtThisStage
    left-at stage (Some negotiated) reply other = left-action (reply_received negotiated stage (weight_of_all k.edits) reply) other

    left-replied : (expected : ExpectedReply) (reply : Reply) → k.expected ≡ expected → LeftOf c (replied expected reply h k)
    left-replied expects.Nothing reply is = left-lost Early
    left-replied expects.Options reply is = left-options (options_received k.offer reply) is
    left-replied (expects.Verdict stage) reply is = left-at stage k.negotiated reply (λ e. absurd (let o : expects.Verdict stage ≡ expects.Options = sym is ∙ e in cc))
    left-replied expects.Unknown reply is = left-at Rcpt k.negotiated reply (λ e. absurd (let o : expects.Unknown ≡ expects.Options = sym is ∙ e in cc))

    left-framed : (reply : Result Reply WireFault) → LeftOf c (framed reply h k)
    left-framed (Err fault) = left-lost (Wire fault)
    left-framed (Ok reply) = left-replied k.expected reply refl

    left-unread : (now : List ℕ) (fault : Option WireFault) (frame : Option (Frame × List ℕ)) → LeftOf c (unread_is now fault frame h k)
    left-unread now (Some fault) frame = left-lost (Wire fault)
    left-unread now None None = kept_by c k h now w left
    left-unread now None (Some found) = left-framed (frame_reply found.0)

  left-if : (x : ℕ) (owed : Bool) → is_owed k ≡ owed
      → LeftOf c (if owed then unread_is (k.unread ++ x ∷ []) (length_fault (k.unread ++ x ∷ [])) (first_frame (k.unread ++ x ∷ [])) h k else fails Early h k)
  left-if x true owed =
      let w = waits c k h left owed in
      left-unread w (waiting c k h w left) (k.unread ++ x ∷ []) (length_fault (k.unread ++ x ∷ [])) (first_frame (k.unread ++ x ∷ []))
  left-if x false owed = left-lost Early

left-byte : (c : Channel) (h : FilterEvent) (k : Channel) (loss : Option Loss) (x : ℕ) → Left loss c h k
    → LeftOf c (received_byte (record { channel = k; event = h; loss = loss }) x)
left-byte c h k None x left = left-if c h k left x (is_owed k) refl
left-byte c h k (Some loss) x left = left

left-bytes : (c : Channel) (a : After) (bytes : List ℕ) → LeftOf c a → LeftOf c (fold received_byte a bytes)
left-bytes c a [] left = left
left-bytes c a (x ∷ bytes) left = left-bytes c (received_byte a x) bytes (left-byte c a.event a.channel a.loss x left)

pub left-received : (c : Channel) (bytes : List ℕ) → LeftOf c (received c bytes)
left-received c bytes = left-bytes c (goes_on events.Nothing c) bytes refl

pub left-by : (loss : Option Loss) (c : Channel) (h : FilterEvent) (k : Channel) → Left loss c h k → loss ≡ None → IsLeftBy h c k
left-by None c h k left is = left
left-by (Some loss) c h k left is = absurd cc

pub left-before : (loss : Option Loss) (c : Channel) (h : FilterEvent) (k : Channel) (by : Loss) → Left loss c h k → loss ≡ Some by
    → (before : Channel) × IsLeftBy h c before × (k ≡ ended h before)
left-before None c h k by left is = absurd cc
left-before (Some loss) c h k by left is = (left.before, left.left, left.ended_is)
