-- What a connection leaves of the messages: it stays, and none is added, or it is given up.
use Rattle.std.specs.Prelude.{if◌then◌else◌}
use Rattle.std.specs.List.{fold}
use Rattle.std.proofs.Common.{◌≡◌, ◌≢◌, ◌<◌, ◌≤◌, ◌⊎◌, inl, inr, arith, ℕ, Bool, true, false, List, [], ◌∷◌, ◌++◌, length, take, length-drop, Option, None, Some, Result, Ok, Err, refl, ap, subst}
use Rattle.milter_fields.specs.declared.fault.WireFault.{WireFault}
use Rattle.milter_fields.specs.Stream.{Frame, first_frame, length_fault}
use Rattle.milter_wire.specs.declared.negotiation.Negotiated.{Negotiated}
use Rattle.milter_wire.specs.declared.command.Command.{Command}
use Rattle.milter_wire.specs.declared.reply.Reply.{Reply}
use Rattle.milter_wire.specs.declared.stage.Stage.{Stage}
use Rattle.milter_wire.specs.declared.verdict.Verdict.{Verdict}
use Rattle.milter_wire.specs.Frames.{frame_reply}
use Rattle.milter_message.specs.declared.edit.Edit.{Edit}
use Rattle.milter_message.specs.MailObject.{MailObject}
use Rattle.milter_protocol.specs.declared.answer.Action.{Action}
use Rattle.milter_protocol.specs.declared.answer.Action.TheVariants as received_as
use Rattle.milter_mta_outcome.specs.declared.acted_verdicts.Acted.{Acted}
use Rattle.milter_mta_outcome.specs.declared.loss.Loss.{Loss}
use Rattle.milter_mta_outcome.specs.declared.loss.Loss.TheVariants.{Fault, Memory, Reset, Timeout}
use Rattle.milter_mta_outcome.specs.declared.loss.MtaFault.{MtaFault}
use Rattle.milter_mta_outcome.specs.declared.loss.MtaFault.TheVariants.{Early, NotAtThisStage, Wire}
use Rattle.milter_mta_outcome.specs.ReceivedReplies.{options_received, reply_received}
use Rattle.milter_mta_outcome.specs.EditWeights.{weight_of_all}
use Rattle.milter_mta_outcome.specs.Transactions.{stage_first}
use Rattle.milter_mta_outcome.specs.TransactionVerdicts.{ends_dialogue, is_of_connection, left_after}
use Rattle.milter_mta.specs.declared.mta_core.Want.{Want}
use Rattle.milter_mta.specs.declared.mta_core.Want.TheVariants as wants
use Rattle.milter_mta.specs.Cores.{ReceivesBytes}
use Rattle.milter_mta.specs.Mta.{FilterConnection, Mta, Position, at_packet}
use Rattle.milter_mta.specs.Mta.Position.{Ended, Offering, Quitting, Sending}
use Rattle.milter_mta.specs.Replies.{After, negotiated_on, at, byte_at, fails, framed, goes_on, received, received_at, received_byte, replied, replied_at, ruled_on, unread_is}
use Rattle.milter_mta.specs.Output.{advanced, advanced_in, sent, sent_in, want, want_unconnected}
use Rattle.milter_mta.specs.Dispositions.{acted_in, defaulted, lost, settled, settled_all, settled_first, settled_in}
use Rattle.milter_mta_client.specs.ConnectionRuns.{IsBetween, IsGivenUp, IsConnected, IsConnectedBy, StaysConnected, dials_left, dials_left_with}

-- ---- it stays

pub still-connected : (m : Mta) → IsConnected m → StaysConnected m m
still-connected m on = record { connected = on; no_more = omega arith }

pub connected-on : (a b c : Mta) → StaysConnected a b → StaysConnected b c → StaysConnected a c
connected-on a b c first next = record { connected = next.connected; no_more = omega (arith, first.no_more, next.no_more) }

pub sent-connected : (m : Mta) (count : ℕ) → IsConnected m → StaysConnected m (sent count m)
sent-connected m count on = by_connection m.filter_connection on
  where
    by_connection : (filter_connection : Option FilterConnection) → IsConnectedBy filter_connection → StaysConnected m (sent_in count filter_connection m)
    by_connection None on = absurd on
    by_connection (Some filter_connection) on = record { connected = tt; no_more = omega arith }

pub advanced-connected : (m : Mta) → IsConnected m → StaysConnected m (advanced m)
advanced-connected m on = by_connection m.filter_connection on
  where
    by_want : (filter_connection : FilterConnection) (w : Want) → StaysConnected m (advanced_in (Some filter_connection) w m)
    by_want filter_connection wants.Send = record { connected = tt; no_more = omega arith }
    by_want filter_connection wants.Dial = still-connected m on
    by_want filter_connection wants.Receive = still-connected m on
    by_want filter_connection wants.Done = still-connected m on

    by_connection : (filter_connection : Option FilterConnection) → IsConnectedBy filter_connection → StaysConnected m (advanced_in filter_connection (want m) m)
    by_connection None on = absurd on
    by_connection (Some filter_connection) on = by_want filter_connection (want m)

-- ---- what is received

-- the connection is there, or the loss has given it up
abbrev LeadsBy : Mta → Mta → Option Loss → Type 0
LeadsBy m new None = StaysConnected m new
LeadsBy m new (Some loss) = IsGivenUp m new

abbrev Leads : Mta → After → Type 0
Leads m after = LeadsBy m after.mta after.loss

module _ (m : Mta) (on : IsConnected m) where
  failed : (fault : MtaFault) → Leads m (fails fault m)
  failed fault = record { before = m; stays = still-connected m on; loss = Fault fault; lost_is = refl }

  reconnected : (filter_connection : FilterConnection) → StaysConnected m (at filter_connection m)
  reconnected filter_connection = record { connected = tt; no_more = omega arith }

  settled-connected : (negotiated : Negotiated) (stage : Stage) (es : List Edit) (verdict : Verdict) (verdicts : List Acted) → StaysConnected m (settled negotiated stage es verdict verdicts m)
  settled-connected negotiated stage es verdict verdicts = by_client (is_of_connection stage)
    where
      by_messages : (messages : List MailObject) → StaysConnected m (settled_in negotiated stage es verdict verdicts messages m)
      by_messages [] = still-connected m on
      by_messages (message ∷ messages) = record { connected = tt; no_more = omega (arith, length-drop 1 m.session.messages) }

      by_client : (client : Bool) → StaysConnected m (if client then settled_all verdict verdicts m else settled_first negotiated stage es verdict verdicts m)
      by_client true = record { connected = tt; no_more = omega arith }
      by_client false = by_messages m.session.messages

  ruled-connected : (negotiated : Negotiated) (stage : Stage) (verdicts : List Acted) (es : List Edit) (left : List Command) (verdict : Verdict) → StaysConnected m (ruled_on negotiated stage verdicts es left verdict m)
  ruled-connected negotiated stage verdicts es left verdict = by_end (ends_dialogue stage verdict verdicts left)
    where
      by_end : (ended : Bool)
          → StaysConnected m (if ended then settled negotiated stage es verdict verdicts m else at (at_packet (Sending negotiated verdicts [] (left_after verdict left))) m)
      by_end true = settled-connected negotiated stage es verdict verdicts
      by_end false = reconnected _

  received_at-leads : (negotiated : Negotiated) (stage : Stage) (verdicts : List Acted) (es : List Edit) (left : List Command) (is : Result Action MtaFault)
      → Leads m (received_at negotiated stage verdicts es left is m)
  received_at-leads negotiated stage verdicts es left (Err fault) = failed fault
  received_at-leads negotiated stage verdicts es left (Ok (received_as.Edit edit)) = reconnected _
  received_at-leads negotiated stage verdicts es left (Ok (received_as.Verdict verdict)) = ruled-connected negotiated stage _ es _ verdict

  replied_at-leads : (negotiated : Negotiated) (verdicts : List Acted) (es : List Edit) (left : List Command) (stage : Option Stage) (reply : Reply)
      → Leads m (replied_at negotiated verdicts es left stage reply m)
  replied_at-leads negotiated verdicts es left None reply = failed NotAtThisStage
  replied_at-leads negotiated verdicts es left (Some stage) reply = received_at-leads negotiated stage verdicts es left (reply_received negotiated stage (weight_of_all es) reply)

  negotiated-leads : (is : Result Negotiated MtaFault) → Leads m (negotiated_on is m)
  negotiated-leads (Err fault) = failed fault
  negotiated-leads (Ok negotiated) = reconnected _

  replied-leads : (position : Position) (reply : Reply) → Leads m (replied position reply m)
  replied-leads Offering reply = negotiated-leads (options_received m.config.offer reply)
  replied-leads (Sending negotiated verdicts es left) reply = replied_at-leads negotiated verdicts es left (stage_first left) reply
  replied-leads Quitting reply = failed Early
  replied-leads Ended reply = failed Early

  framed-leads : (position : Position) (found : Result Reply WireFault) → Leads m (framed position found m)
  framed-leads position (Err fault) = failed (Wire fault)
  framed-leads position (Ok reply) = replied-leads position reply

  unread-leads : (filter_connection : FilterConnection) (unread : List ℕ) (fault : Option WireFault) (frame : Option (Frame × List ℕ)) → Leads m (unread_is filter_connection unread fault frame m)
  unread-leads filter_connection unread (Some fault) frame = failed (Wire fault)
  unread-leads filter_connection unread None None = reconnected _
  unread-leads filter_connection unread None (Some first) = framed-leads filter_connection.position (frame_reply first.0)

  byte-leads : (byte : ℕ) → Leads m (byte_at m.filter_connection byte m)
  byte-leads byte = by_connection m.filter_connection
    where
      by_owed : (filter_connection : FilterConnection) (owed : Bool)
          → Leads m (if owed then unread_is filter_connection (filter_connection.unread ++ byte ∷ []) (length_fault (filter_connection.unread ++ byte ∷ [])) (first_frame (filter_connection.unread ++ byte ∷ [])) m else fails Early m)
      by_owed filter_connection true = unread-leads filter_connection _ _ _
      by_owed filter_connection false = failed Early

      by_connection : (filter_connection : Option FilterConnection) → Leads m (byte_at filter_connection byte m)
      by_connection None = failed Early
      by_connection (Some filter_connection) = by_owed filter_connection filter_connection.owed

leads-on : (start m new : Mta) (loss : Option Loss) → StaysConnected start m → LeadsBy m new loss → LeadsBy start new loss
leads-on start m new None stays leads = connected-on start m new stays leads
leads-on start m new (Some loss) stays leads =
    record { before = leads.before; stays = connected-on start m leads.before stays leads.stays; loss = leads.loss; lost_is = leads.lost_is }

received-on-leads : (bytes : List ℕ) (start m : Mta) (loss : Option Loss) → LeadsBy start m loss → Leads start (fold received_byte (record { mta = m; loss = loss }) bytes)
received-on-leads [] start m loss leads = leads
received-on-leads (byte ∷ bytes) start m (Some loss) leads = received-on-leads bytes start m (Some loss) leads
received-on-leads (byte ∷ bytes) start m None leads =
    let after = byte_at m.filter_connection byte m in
    received-on-leads bytes start after.mta after.loss (leads-on start m after.mta after.loss leads (byte-leads m leads.connected byte))

received-leads : (m : Mta) (bytes : List ℕ) → IsConnected m → Leads m (received m bytes)
received-leads m bytes on = received-on-leads bytes m m None (still-connected m on)

received-connected : (old new : Mta) (bytes : List ℕ) → IsConnected old → received old bytes ≡ goes_on new → StaysConnected old new
received-connected old new bytes on e = subst (λ (after : After). Leads old after) e (received-leads old bytes on)

pub receives_bytes-ok : (old new : Mta) (bytes : List ℕ) → IsConnected old → ReceivesBytes old bytes new (Ok tt) → StaysConnected old new
receives_bytes-ok old new bytes on e = received-connected old new bytes on e

pub receives_bytes-lost : (old new : Mta) (bytes : List ℕ) (loss : Loss) → IsConnected old → ReceivesBytes old bytes new (Err loss) → IsGivenUp old new
receives_bytes-lost old new bytes Memory on e =
    record { before = e.before; stays = received-connected old e.before (take e.count bytes) on e.received_before; loss = Memory; lost_is = e.lost_then }
receives_bytes-lost old new bytes Reset on e = subst (λ (after : After). Leads old after) e (received-leads old bytes on)
receives_bytes-lost old new bytes Timeout on e = subst (λ (after : After). Leads old after) e (received-leads old bytes on)
receives_bytes-lost old new bytes (Fault fault) on e = subst (λ (after : After). Leads old after) e (received-leads old bytes on)

-- ---- it is given up

unconnected-between : (messages : List MailObject) → (want_unconnected messages ≡ wants.Dial) ⊎ (want_unconnected messages ≡ wants.Done)
unconnected-between [] = inr refl
unconnected-between (message ∷ messages) = inl refl

pub lost-between : (loss : Loss) (m : Mta) → IsBetween (lost loss m)
lost-between loss m = unconnected-between (lost loss m).session.messages

some-length : (messages : List MailObject) → messages ≢ [] → 0 < length messages
some-length [] some = absurd (some refl)
some-length (message ∷ messages) some = omega arith

pub lost-fewer : (start m : Mta) (loss : Loss) → length m.session.messages ≤ length start.session.messages → start.session.messages ≢ []
    → dials_left (lost loss m) < length start.session.messages
lost-fewer start m loss no_more some = by_messages m.session.messages refl
  where
    by_messages : (messages : List MailObject) → m.session.messages ≡ messages
        → length (defaulted loss (acted_in m.filter_connection) messages m).session.messages < length start.session.messages
    by_messages [] e = omega (arith, ap length e, some-length start.session.messages some)
    by_messages (message ∷ messages) e = omega (arith, ap length e, length-drop 1 m.session.messages, no_more)

pub connected-dials : (m : Mta) → IsConnected m → dials_left m ≡ 0
connected-dials m on = by_connection m.filter_connection on
  where
    by_connection : (filter_connection : Option FilterConnection) → IsConnectedBy filter_connection → dials_left_with filter_connection m.session.messages ≡ 0
    by_connection None on = absurd on
    by_connection (Some filter_connection) on = refl

pub connected-fewer : (start m : Mta) → IsConnected m → start.session.messages ≢ [] → dials_left m < length start.session.messages
connected-fewer start m on some = omega (arith, connected-dials m on, some-length start.session.messages some)
