-- After a loss nothing comes any more.
use Rattle.std.proofs.Common.{◌≡◌, ℕ, Bool, true, false, List, [], ◌∷◌, ◌++◌, Option, None, Some, Result, Ok, Err, if◌then◌else◌, refl, inl, inr, sym, ap, ◌∙◌, subst, drop, arith}
use Rattle.std.proofs.Common.{drop_of_length-le}
use Rattle.milter_wire.specs.declared.command.Command.{Command}
use Rattle.milter_wire.specs.declared.stage.Stage.{Stage}
use Rattle.std.specs.List.{fold}
use Rattle.milter_fields.specs.declared.fault.WireFault.{WireFault}
use Rattle.milter_fields.specs.Stream.{Frame, first_frame, length_fault}
use Rattle.milter_wire.specs.declared.negotiation.Negotiated.{Negotiated}
use Rattle.milter_wire.specs.declared.reply.Reply.{Reply}
use Rattle.milter_wire.specs.declared.stage.Stage.TheVariants.{Rcpt}
use Rattle.milter_wire.specs.Frames.{frame_reply}
use Rattle.milter_wire.specs.Stages.{stage_of}
use Rattle.milter_protocol.specs.declared.answer.Action.{Action}
use Rattle.milter_protocol.specs.declared.answer.Action.TheVariants as actions
use Rattle.milter_fields.specs.declared.pair.Pair.{Pair}
use Rattle.milter_mta_outcome.specs.declared.loss.Loss.{Loss}
use Rattle.milter_mta_outcome.specs.declared.loss.MtaFault.{MtaFault}
use Rattle.milter_mta_outcome.specs.declared.loss.MtaFault.TheVariants.{Early, NotAtThisStage, Wire}
use Rattle.milter_mta_outcome.specs.ReceivedReplies.{options_received, reply_received}
use Rattle.milter_mta_outcome.specs.EditWeights.{weight_of_all}
use Rattle.milter_mta_connection.specs.declared.channel_state.ExpectedReply.{ExpectedReply}
use Rattle.milter_mta_connection.specs.declared.channel_state.ExpectedReply.TheVariants as expects
use Rattle.milter_mta_connection.specs.declared.filter_event.FilterEvent.{FilterEvent}
use Rattle.milter_mta_connection.specs.declared.filter_event.FilterEvent.TheVariants as events
use Rattle.milter_mta_connection.specs.Channel.{Channel, is_owed}
use Rattle.milter_mta_connection.specs.Received.{After, fails, framed, goes_on, negotiated_on, received, received_as, received_byte, replied, replied_at, unread_is}
use Rattle.milter_mta_connection.proofs.ReceivedFrames.{early}
use Rattle.milter_mta_connection.specs.declared.phase.Phase.{Phase}
use Rattle.milter_mta_connection.specs.declared.phase.Phase.TheVariants.{Closed}
use Rattle.milter_mta_connection.specs.Calls.{Call, after, called_at, queued_at, fed_by}
use Rattle.milter_mta_connection.specs.Calls.Call.{StageCommand, UnknownCommand, Sent, Feed, Abort, Quit, Lost}
use Rattle.milter_mta_connection.specs.Connection.{Connection, after_event, closed_by}
use Rattle.milter_mta_connection.specs.Losses.{AllStayLost, IsLost, StaysLost}

-- a channel on which nothing is pending and no reply is expected
abbrev quiet : Channel → Channel
quiet k = record k { expected = expects.Nothing; pending = [] }

-- a connection on such a channel that is closed
abbrev pub shut : Connection → Connection
shut c = record c { channel = quiet c.channel; phase = Closed }

same_shut : (c : Connection) → IsLost c → c ≡ shut c
same_shut c is =
    ap (λ (p : Phase). record c { phase = p }) is.closed
    ∙ ap (λ (x : ExpectedReply). record c { channel = record c.channel { expected = x }; phase = Closed }) is.none_expected
    ∙ ap (λ (p : List ℕ). record c { channel = record c.channel { expected = expects.Nothing; pending = p }; phase = Closed }) is.none_pending

shut-lost : (c : Connection) → IsLost (shut c)
shut-lost c = record { closed = refl; none_expected = refl; none_pending = refl }

-- nothing may come on it
fed_quiet : (k : Channel) (byte : ℕ) (bytes : List ℕ) → received (quiet k) (byte ∷ bytes) ≡ fails Early events.Nothing (quiet k)
fed_quiet k byte bytes = early events.Nothing (quiet k) (byte ∷ bytes) refl (omega arith)

stage_refused : (stage : Option Stage) (command : Command) (pairs : List Pair) (c : Connection) → called_at stage command pairs (shut c) ≡ shut c
stage_refused None command pairs c = refl
stage_refused (Some stage) command pairs c = refl

stage_unqueued : (stage : Option Stage) (command : Command) (pairs : List Pair) (c : Connection) → queued_at stage command pairs (shut c) ≡ []
stage_unqueued None command pairs c = refl
stage_unqueued (Some stage) command pairs c = refl

dropped : (n : ℕ) (bytes : List ℕ) → bytes ≡ [] → drop n bytes ≡ []
dropped n [] e = drop_of_length-le [] {i = n} (omega arith)
dropped n (byte ∷ bytes) e = absurd cc

shut-stays : (call : Call) (c : Connection) → StaysLost call (shut c)
shut-stays (StageCommand command pairs) c =
    let same = stage_refused (stage_of command) command pairs c in
    record {
      lost = subst IsLost (sym same) (shut-lost c);
      none_queued = stage_unqueued (stage_of command) command pairs c;
      no_event = refl;
      no_new_edits = inl (ap (λ (k : Connection). k.channel.edits) same);
    }
shut-stays (UnknownCommand text pairs) c = record { lost = shut-lost c; none_queued = refl; no_event = refl; no_new_edits = inl refl }
shut-stays Abort c = record { lost = shut-lost c; none_queued = refl; no_event = refl; no_new_edits = inl refl }
shut-stays Quit c = record { lost = shut-lost c; none_queued = refl; no_event = refl; no_new_edits = inl refl }
shut-stays (Sent n) c =
    record {
      lost = record { closed = refl; none_expected = refl; none_pending = dropped n [] refl };
      none_queued = refl;
      no_event = refl;
      no_new_edits = inl refl;
    }
shut-stays (Feed []) c = record { lost = shut-lost c; none_queued = refl; no_event = refl; no_new_edits = inl refl }
shut-stays (Feed (byte ∷ bytes)) c =
    let is = fed_quiet c.channel byte bytes in
    let same : after (Feed (byte ∷ bytes)) (shut c) ≡ fed_by (fails Early events.Nothing (quiet c.channel)) (shut c) =
    ap (λ (a : After). fed_by a (shut c)) is in
    record {
      lost = subst IsLost (sym same) (record { closed = refl; none_expected = refl; none_pending = refl });
      none_queued = refl;
      no_event = ap (λ (a : After). a.event) is;
      no_new_edits = inr (ap (λ (k : Connection). k.channel.edits) same);
    }
shut-stays Lost c = record { lost = record { closed = refl; none_expected = refl; none_pending = refl }; none_queued = refl; no_event = refl; no_new_edits = inr refl }

pub stays : (call : Call) (c : Connection) → IsLost c → StaysLost call c
stays call c is = subst (StaysLost call) (sym (same_shut c is)) (shut-stays call c)

pub all_stay : (calls : List Call) (c : Connection) → IsLost c → AllStayLost calls c
all_stay [] c is = tt
all_stay (call ∷ calls) c is = let s = stays call c is in (s, all_stay calls (after call c) s.lost)

-- ---- a loss

-- where the filter is lost nothing is pending and no reply is expected
abbrev pub IsKept : After → Type 0
IsKept a = (loss : Loss) → a.loss ≡ Some loss → (a.channel.expected ≡ expects.Nothing) × (a.channel.pending ≡ []) × (a.channel.unread ≡ [])

pub kept_on : (h : FilterEvent) (c : Channel) → IsKept (goes_on h c)
kept_on h c loss is = absurd cc

kept_lost : (fault : MtaFault) (h : FilterEvent) (c : Channel) → IsKept (fails fault h c)
kept_lost fault h c loss is = (refl, refl, refl)

module _ (h : FilterEvent) (c : Channel) where
  kept_as : (received : Result Action MtaFault) → IsKept (received_as received h c)
  kept_as (Err fault) = kept_lost fault h c
  kept_as (Ok (actions.Edit edit)) = λ loss is. absurd cc
  kept_as (Ok (actions.Verdict verdict)) = λ loss is. absurd cc

  kept_at : (negotiated : Option Negotiated) (stage : Stage) (reply : Reply) → IsKept (replied_at negotiated stage reply h c)
  kept_at None stage reply = kept_lost NotAtThisStage h c
  kept_at (Some negotiated) stage reply = kept_as (reply_received negotiated stage (weight_of_all c.edits) reply)

  kept_options : (negotiated : Result Negotiated MtaFault) → IsKept (negotiated_on negotiated h c)
  kept_options (Err fault) = kept_lost fault h c
  kept_options (Ok negotiated) = λ loss is. absurd cc

  kept_reply : (expected : ExpectedReply) (reply : Reply) → IsKept (replied expected reply h c)
  kept_reply expects.Nothing reply = kept_lost Early h c
  kept_reply expects.Options reply = kept_options (options_received c.offer reply)
  kept_reply (expects.Verdict stage) reply = kept_at c.negotiated stage reply
  kept_reply expects.Unknown reply = kept_at c.negotiated Rcpt reply

  kept_frame : (reply : Result Reply WireFault) → IsKept (framed reply h c)
  kept_frame (Err fault) = kept_lost (Wire fault) h c
  kept_frame (Ok reply) = kept_reply c.expected reply

  kept_unread : (unread : List ℕ) (fault : Option WireFault) (first : Option (Frame × List ℕ)) → IsKept (unread_is unread fault first h c)
  kept_unread unread (Some fault) first = kept_lost (Wire fault) h c
  kept_unread unread None None = λ loss is. absurd cc
  kept_unread unread None (Some first) = kept_frame (frame_reply first.0)

  kept_byte : (owed : Bool) (unread : List ℕ)
      → IsKept (if owed then unread_is unread (length_fault unread) (first_frame unread) h c else fails Early h c)
  kept_byte true unread = kept_unread unread (length_fault unread) (first_frame unread)
  kept_byte false unread = kept_lost Early h c

kept_step : (h : FilterEvent) (c : Channel) (loss : Option Loss) (byte : ℕ) → IsKept (record { channel = c; event = h; loss = loss })
    → IsKept (received_byte (record { channel = c; event = h; loss = loss }) byte)
kept_step h c None byte is = kept_byte h c (is_owed c) (c.unread ++ byte ∷ [])
kept_step h c (Some loss) byte is = is

pub kept_all : (bytes : List ℕ) (a : After) → IsKept a → IsKept (fold received_byte a bytes)
kept_all [] a is = is
kept_all (byte ∷ bytes) a is = kept_all bytes (received_byte a byte) (kept_step a.event a.channel a.loss byte is)

-- an event changes nothing of the channel
pub event_channel : (expected : ExpectedReply) (event : FilterEvent) (c : Connection) → (after_event expected event c).channel ≡ c.channel
event_channel (expects.Verdict stage) (events.Verdict verdict) c = refl
event_channel (expects.Verdict stage) events.Nothing c = refl
event_channel (expects.Verdict stage) events.InProgress c = refl
event_channel (expects.Verdict stage) events.Negotiated c = refl
event_channel expects.Unknown (events.Verdict verdict) c = refl
event_channel expects.Unknown events.Nothing c = refl
event_channel expects.Unknown events.InProgress c = refl
event_channel expects.Unknown events.Negotiated c = refl
event_channel expects.Nothing event c = refl
event_channel expects.Options event c = refl

pub fed_lost : (c : Connection) (bytes : List ℕ) (loss : Loss) → (received c.channel bytes).loss ≡ Some loss → IsLost (after (Feed bytes) c)
fed_lost c bytes loss is =
    let a : After = received c.channel bytes in
    let kept = kept_all bytes (goes_on events.Nothing c.channel) (kept_on events.Nothing c.channel) loss is in
    let here : Connection = after_event c.channel.expected a.event (record c { channel = a.channel }) in
    let same : here.channel ≡ a.channel = event_channel c.channel.expected a.event (record c { channel = a.channel }) in
    subst (λ (l : Option Loss). IsLost (closed_by l here)) (sym is)
    (record {
      closed = refl;
      none_expected = ap (λ (k : Channel). k.expected) same ∙ kept.0;
      none_pending = ap (λ (k : Channel). k.pending) same ∙ kept.1;
    })
