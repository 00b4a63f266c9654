-- What always holds of the events of a channel.
use Rattle.std.proofs.Common.{◌≡◌, ℕ, Bool, true, false, List, [], ◌∷◌, ◌++◌, Option, None, Some, Result, Ok, Err, refl, sym, ◌∙◌, ap, subst}
use Rattle.std.specs.Prelude.{if◌then◌else◌}
use Rattle.std.specs.List.{fold}
use Rattle.std.proofs.lemmas.List.Elements.{All-nil, All-push}
use Rattle.milter_fields.specs.declared.fault.WireFault.{WireFault}
use Rattle.milter_fields.specs.Stream.{Frame, first_frame, length_fault}
use Rattle.milter_wire.specs.declared.negotiation.Negotiated.{Negotiated}
use Rattle.milter_wire.specs.declared.reply.Reply.{Reply}
use Rattle.milter_wire.specs.declared.stage.Stage.{Stage}
use Rattle.milter_wire.specs.declared.stage.Stage.TheVariants.{Rcpt}
use Rattle.milter_wire.specs.declared.verdict.Verdict.{Verdict}
use Rattle.milter_wire.specs.Frames.{frame_reply}
use Rattle.milter_message.specs.declared.edit.Edit.{Edit}
use Rattle.milter_protocol.specs.declared.answer.Action.{Action}
use Rattle.milter_protocol.specs.declared.answer.Action.TheVariants as actions
use Rattle.milter_protocol.specs.Permitted.{is_permitted}
use Rattle.milter_mta_outcome.specs.declared.loss.Loss.{Loss}
use Rattle.milter_mta_outcome.specs.declared.loss.MtaFault.{MtaFault}
use Rattle.milter_mta_outcome.specs.declared.loss.MtaFault.TheVariants.{Early, NotAtThisStage, Wire}
use Rattle.milter_mta_outcome.specs.ReceivedReplies.{is_given, options_received, reply_received}
use Rattle.milter_mta_connection.specs.declared.channel_state.ExpectedReply.{ExpectedReply}
use Rattle.milter_mta_connection.specs.declared.channel_state.ExpectedReply.TheVariants as expects
use Rattle.milter_mta_connection.specs.declared.filter_event.FilterEvent.{FilterEvent}
use Rattle.milter_mta_connection.specs.declared.filter_event.FilterEvent.TheVariants as events
use Rattle.milter_mta_outcome.specs.EditWeights.{weight_of_all}
use Rattle.milter_mta_connection.specs.Channel.{Channel, cleared, is_expecting, is_owed, is_owed_by, verdict_stage, without_edits}
use Rattle.milter_mta_connection.specs.Received.{After, edits_left, ended, fails, framed, goes_on, negotiated_on, received, received_as, received_byte, replied, replied_at, unread_is}
use Rattle.milter_mta_connection.specs.ReplyRules.{ArePermitted, ArePermittedBy, IsAnswered, IsWaiting}

abbrev AreGiven : Type 0
AreGiven = (negotiated : Negotiated) (stage : Stage) (weight : ℕ) (reply : Reply) (verdict : Verdict)
    → reply_received negotiated stage weight reply ≡ Ok (actions.Verdict verdict) → is_given negotiated stage verdict ≡ true

abbrev AreAllowed : Type 0
AreAllowed = (negotiated : Negotiated) (stage : Stage) (weight : ℕ) (reply : Reply) (edit : Edit)
    → reply_received negotiated stage weight reply ≡ Ok (actions.Edit edit) → is_permitted negotiated edit ≡ true

sent-owed : (expected : ExpectedReply) (pending : List ℕ) → is_owed_by expected pending ≡ true → pending ≡ []
sent-owed expected [] owed = refl
sent-owed expected (x ∷ pending) owed = absurd cc

asking-owed : (expected : ExpectedReply) (pending : List ℕ) → is_owed_by expected pending ≡ true → is_expecting expected ≡ true
asking-owed expected [] owed = owed
asking-owed expected (x ∷ pending) owed = absurd cc

-- ---- verdicts

-- since this channel: a verdict that was event last is an answer to what it expected, and while something is expected that is
-- what it expected
record Follows (c : Channel) (a : After) : Type 0 where
  verdict_is : (verdict : Verdict) → a.event ≡ events.Verdict verdict → IsAnswered c verdict
  expected_is : is_expecting a.channel.expected ≡ true → a.channel.expected ≡ c.expected
  negotiated_is : is_expecting a.channel.expected ≡ true → a.channel.negotiated ≡ c.negotiated
  pending_is : is_expecting a.channel.expected ≡ true → a.channel.pending ≡ c.pending
  waits : is_expecting a.channel.expected ≡ true → IsWaiting a.event

module _ (given : AreGiven) (c : Channel) (h : FilterEvent) (k : Channel) (loss : Option Loss) (f : Follows c (record { channel = k; event = h; loss = loss })) where
  follows-lost : (fault : MtaFault) → Follows c (fails fault h k)
  follows-lost fault = record { verdict_is = f.verdict_is; expected_is = λ e. absurd cc; negotiated_is = λ e. absurd cc; pending_is = λ e. absurd cc; waits = λ e. absurd cc }

  -- while a reply is owed
  module _ (owed : is_owed k ≡ true) where
    follows-action : (stage : Stage) (negotiated : Negotiated) (reply : Reply) (action : Result Action MtaFault) → verdict_stage k.expected ≡ Some stage → k.negotiated ≡ Some negotiated
        → reply_received negotiated stage (weight_of_all k.edits) reply ≡ action → Follows c (received_as action h k)
    follows-action stage negotiated reply (Err fault) expected is by = follows-lost fault
    follows-action stage negotiated reply (Ok (actions.Edit edit)) expected is by =
        record { verdict_is = λ verdict e. absurd cc; expected_is = f.expected_is; negotiated_is = f.negotiated_is; pending_is = f.pending_is; waits = λ e. tt }
    follows-action stage negotiated reply (Ok (actions.Verdict verdict)) expected is by =
        let expecting = asking-owed k.expected k.pending owed in
        let answered : IsAnswered c verdict = record {
          stage = stage;
          negotiated = negotiated;
          expected_is = ap verdict_stage (sym (f.expected_is expecting)) ∙ expected;
          sent_whole = sym (f.pending_is expecting) ∙ sent-owed k.expected k.pending owed;
          negotiated_is = sym (f.negotiated_is expecting) ∙ is;
          given = given negotiated stage (weight_of_all k.edits) reply verdict by;
        } in
        record {
          verdict_is = λ (other : Verdict) (e : events.Verdict verdict ≡ events.Verdict other). let same : verdict ≡ other = cc in subst (IsAnswered c) same answered;
          expected_is = λ e. absurd cc;
          negotiated_is = λ e. absurd cc;
          pending_is = λ e. absurd cc;
          waits = λ e. absurd cc;
        }

    follows-options : (result : Result Negotiated MtaFault) → Follows c (negotiated_on result h k)
    follows-options (Err fault) = follows-lost fault
    follows-options (Ok negotiated) = record { verdict_is = λ verdict e. absurd cc; expected_is = λ e. absurd cc; negotiated_is = λ e. absurd cc; pending_is = λ e. absurd cc; waits = λ e. absurd cc }

    follows-at : (stage : Stage) (negotiated : Option Negotiated) (reply : Reply) → verdict_stage k.expected ≡ Some stage → k.negotiated ≡ negotiated → Follows c (replied_at negotiated stage reply h k)
    follows-at stage None reply expected is = follows-lost NotAtThisStage
    follows-at stage (Some negotiated) reply expected is = follows-action stage negotiated reply (reply_received negotiated stage (weight_of_all k.edits) reply) expected is refl

    follows-replied : (expected : ExpectedReply) (reply : Reply) → k.expected ≡ expected → Follows c (replied expected reply h k)
    follows-replied expects.Nothing reply is = follows-lost Early
    follows-replied expects.Options reply is = follows-options (options_received k.offer reply)
    follows-replied (expects.Verdict stage) reply is = follows-at stage k.negotiated reply (ap verdict_stage is) refl
    follows-replied expects.Unknown reply is = follows-at Rcpt k.negotiated reply (ap verdict_stage is) refl

    follows-framed : (reply : Result Reply WireFault) → Follows c (framed reply h k)
    follows-framed (Err fault) = follows-lost (Wire fault)
    follows-framed (Ok reply) = follows-replied k.expected reply refl

    follows-unread : (now : List ℕ) (fault : Option WireFault) (frame : Option (Frame × List ℕ)) → Follows c (unread_is now fault frame h k)
    follows-unread now (Some fault) frame = follows-lost (Wire fault)
    follows-unread now None None = record { verdict_is = f.verdict_is; expected_is = f.expected_is; negotiated_is = f.negotiated_is; pending_is = f.pending_is; waits = f.waits }
    follows-unread now None (Some found) = follows-framed (frame_reply found.0)

  follows-if : (x : ℕ) (owed : Bool) → is_owed k ≡ owed
      → Follows c (if owed then unread_is (k.unread ++ x ∷ []) (length_fault (k.unread ++ x ∷ [])) (first_frame (k.unread ++ x ∷ [])) h k else fails Early h k)
  follows-if x true owed = follows-unread owed (k.unread ++ x ∷ []) (length_fault (k.unread ++ x ∷ [])) (first_frame (k.unread ++ x ∷ []))
  follows-if x false owed = follows-lost Early

follows-byte : AreGiven → (c : Channel) (h : FilterEvent) (k : Channel) (loss : Option Loss) (x : ℕ) → Follows c (record { channel = k; event = h; loss = loss })
    → Follows c (received_byte (record { channel = k; event = h; loss = loss }) x)
follows-byte given c h k None x f = follows-if given c h k None f x (is_owed k) refl
follows-byte given c h k (Some loss) x f = f

follows-bytes : AreGiven → (c : Channel) (a : After) (bytes : List ℕ) → Follows c a → Follows c (fold received_byte a bytes)
follows-bytes given c a [] f = f
follows-bytes given c a (x ∷ bytes) f = follows-bytes given c (received_byte a x) bytes (follows-byte given c a.event a.channel a.loss x f)

follows-start : (c : Channel) → Follows c (goes_on events.Nothing c)
follows-start c = record { verdict_is = λ verdict e. absurd cc; expected_is = λ e. refl; negotiated_is = λ e. refl; pending_is = λ e. refl; waits = λ e. tt }

pub verdict-answers : AreGiven → (c : Channel) (bytes : List ℕ) (verdict : Verdict) → (received c bytes).event ≡ events.Verdict verdict → IsAnswered c verdict
verdict-answers given c bytes verdict is =
    let f = follows-bytes given c (goes_on events.Nothing c) bytes (follows-start c) in
    f.verdict_is verdict is

-- while a reply is owed nothing settled was event
pub owed-waits : AreGiven → (c : Channel) (bytes : List ℕ) → is_owed (received c bytes).channel ≡ true → IsWaiting (received c bytes).event
owed-waits given c bytes owed =
    let f = follows-bytes given c (goes_on events.Nothing c) bytes (follows-start c) in
    let k = (received c bytes).channel in
    f.waits (asking-owed k.expected k.pending owed)

-- ---- edits

no_edits-permitted : (negotiated : Option Negotiated) → ArePermittedBy negotiated []
no_edits-permitted None = refl
no_edits-permitted (Some negotiated) = All-nil (λ (edit : Edit). is_permitted negotiated edit ≡ true)

left-permitted : (h : FilterEvent) (negotiated : Option Negotiated) (edits : List Edit) → ArePermittedBy negotiated edits → ArePermittedBy negotiated (edits_left h edits)
left-permitted (events.Verdict verdict) negotiated edits p = p
left-permitted events.Nothing negotiated edits p = no_edits-permitted negotiated
left-permitted events.InProgress negotiated edits p = no_edits-permitted negotiated
left-permitted events.Negotiated negotiated edits p = no_edits-permitted negotiated

pub permitted-cleared : (c : Channel) → ArePermitted (cleared c)
permitted-cleared c = record { permitted = no_edits-permitted c.negotiated; none_offered = λ e. refl }

pub permitted-without_edits : (c : Channel) → ArePermitted (without_edits c)
permitted-without_edits c = record { permitted = no_edits-permitted c.negotiated; none_offered = λ e. refl }

module _ (allowed : AreAllowed) (h : FilterEvent) (k : Channel) (p : ArePermitted k) where
  permitted-lost : ArePermitted (ended h k)
  permitted-lost = record { permitted = left-permitted h k.negotiated k.edits p.permitted; none_offered = λ e. absurd cc }

  none-permitted : (negotiated : Negotiated) (edits : List Edit) → edits ≡ [] → ArePermittedBy (Some negotiated) edits
  none-permitted negotiated edits none = subst (λ (l : List Edit). ArePermittedBy (Some negotiated) l) (sym none) (All-nil (λ (edit : Edit). is_permitted negotiated edit ≡ true))

  permitted-action : (stage : Stage) (negotiated : Negotiated) (reply : Reply) (action : Result Action MtaFault) → verdict_stage k.expected ≡ Some stage → k.negotiated ≡ Some negotiated
      → reply_received negotiated stage (weight_of_all k.edits) reply ≡ action → ArePermitted (received_as action h k).channel
  permitted-action stage negotiated reply (Err fault) expected is by = permitted-lost
  permitted-action stage negotiated reply (Ok (actions.Edit edit)) expected is by =
      let before : ArePermittedBy (Some negotiated) k.edits = subst (λ (n : Option Negotiated). ArePermittedBy n k.edits) is p.permitted in
      let this : is_permitted negotiated edit ≡ true = allowed negotiated stage (weight_of_all k.edits) reply edit by in
      let P : Edit → Type 0 = λ e. is_permitted negotiated e ≡ true in
      record {
        permitted = subst (λ (n : Option Negotiated). ArePermittedBy n (k.edits ++ edit ∷ [])) (sym is) (All-push P k.edits edit before this);
        none_offered = λ (e : k.expected ≡ expects.Options). absurd (let o : verdict_stage expects.Options ≡ Some stage = ap verdict_stage (sym e) ∙ expected in cc);
      }
  permitted-action stage negotiated reply (Ok (actions.Verdict verdict)) expected is by = record { permitted = p.permitted; none_offered = λ e. absurd cc }

  permitted-at : (stage : Stage) (negotiated : Option Negotiated) (reply : Reply) → verdict_stage k.expected ≡ Some stage → k.negotiated ≡ negotiated → ArePermitted (replied_at negotiated stage reply h k).channel
  permitted-at stage None reply expected is = permitted-lost
  permitted-at stage (Some negotiated) reply expected is = permitted-action stage negotiated reply (reply_received negotiated stage (weight_of_all k.edits) reply) expected is refl

  permitted-options : (result : Result Negotiated MtaFault) → k.expected ≡ expects.Options → ArePermitted (negotiated_on result h k).channel
  permitted-options (Err fault) expected = permitted-lost
  permitted-options (Ok negotiated) expected = record { permitted = none-permitted negotiated k.edits (p.none_offered expected); none_offered = λ e. absurd cc }

  permitted-replied : (expected : ExpectedReply) (reply : Reply) → k.expected ≡ expected → ArePermitted (replied expected reply h k).channel
  permitted-replied expects.Nothing reply is = permitted-lost
  permitted-replied expects.Options reply is = permitted-options (options_received k.offer reply) is
  permitted-replied (expects.Verdict stage) reply is = permitted-at stage k.negotiated reply (ap verdict_stage is) refl
  permitted-replied expects.Unknown reply is = permitted-at Rcpt k.negotiated reply (ap verdict_stage is) refl

  permitted-framed : (reply : Result Reply WireFault) → ArePermitted (framed reply h k).channel
  permitted-framed (Err fault) = permitted-lost
  permitted-framed (Ok reply) = permitted-replied k.expected reply refl

  permitted-unread : (now : List ℕ) (fault : Option WireFault) (frame : Option (Frame × List ℕ)) → ArePermitted (unread_is now fault frame h k).channel
  permitted-unread now (Some fault) frame = permitted-lost
  permitted-unread now None None = record { permitted = p.permitted; none_offered = p.none_offered }
  permitted-unread now None (Some found) = permitted-framed (frame_reply found.0)

  permitted-if : (x : ℕ) (owed : Bool)
      → ArePermitted (if owed then unread_is (k.unread ++ x ∷ []) (length_fault (k.unread ++ x ∷ [])) (first_frame (k.unread ++ x ∷ [])) h k else fails Early h k).channel
  permitted-if x true = permitted-unread (k.unread ++ x ∷ []) (length_fault (k.unread ++ x ∷ [])) (first_frame (k.unread ++ x ∷ []))
  permitted-if x false = permitted-lost

permitted-byte : AreAllowed → (h : FilterEvent) (k : Channel) (loss : Option Loss) (x : ℕ) → ArePermitted k
    → ArePermitted (received_byte (record { channel = k; event = h; loss = loss }) x).channel
permitted-byte allowed h k None x p = permitted-if allowed h k p x (is_owed k)
permitted-byte allowed h k (Some loss) x p = p

permitted-bytes : AreAllowed → (a : After) (bytes : List ℕ) → ArePermitted a.channel → ArePermitted (fold received_byte a bytes).channel
permitted-bytes allowed a [] p = p
permitted-bytes allowed a (x ∷ bytes) p = permitted-bytes allowed (received_byte a x) bytes (permitted-byte allowed a.event a.channel a.loss x p)

pub permitted-received : AreAllowed → (c : Channel) (bytes : List ℕ) → ArePermitted c → ArePermitted (received c bytes).channel
permitted-received allowed c bytes p = permitted-bytes allowed (goes_on events.Nothing c) bytes p
