-- The verdict on the connection is the last one of the messages that it settled.
use Rattle.std.specs.Prelude.{if◌then◌else◌, option_map}
use Rattle.std.specs.List.{fold}
use Rattle.std.proofs.Common.{◌≡◌, ◌≢◌, ℕ, Bool, true, false, List, [], ◌∷◌, ◌++◌, drop, map, Option, None, Some, Result, Ok, Err, refl, sym, ap, ◌∙◌, subst, append-nil}
use Rattle.std.proofs.lemmas.List.Elements.{filter-append}
use Rattle.std.proofs.lemmas.Option.{same_Some}
use Rattle.milter_fields.specs.declared.fault.WireFault.{WireFault}
use Rattle.milter_fields.specs.Stream.{Frame, first_frame, length_fault}
use Rattle.milter_wire.specs.declared.negotiation.Negotiated.{Negotiated}
use Rattle.milter_wire.specs.declared.command.Command.{Command}
use Rattle.milter_wire.specs.declared.reply.Reply.{Reply}
use Rattle.milter_wire.specs.declared.stage.Stage.{Stage}
use Rattle.milter_wire.specs.declared.verdict.Verdict.{Verdict}
use Rattle.milter_wire.specs.Frames.{frame_reply}
use Rattle.milter_message.specs.declared.edit.Edit.{Edit}
use Rattle.milter_message.specs.MailObject.{MailObject}
use Rattle.milter_protocol.specs.declared.answer.Action.{Action}
use Rattle.milter_protocol.specs.declared.answer.Action.TheVariants as received_as
use Rattle.milter_mta_outcome.specs.declared.acted_verdicts.Acted.{Acted}
use Rattle.milter_mta_outcome.specs.declared.loss.By.TheVariants.{Connection}
use Rattle.milter_mta_outcome.specs.declared.loss.Loss.{Loss}
use Rattle.milter_mta_outcome.specs.declared.loss.Loss.TheVariants.{Fault}
use Rattle.milter_mta_outcome.specs.declared.loss.MtaFault.{MtaFault}
use Rattle.milter_mta_outcome.specs.declared.loss.MtaFault.TheVariants.{Early, NotAtThisStage, Wire}
use Rattle.milter_mta_outcome.specs.declared.outcome.Report.{Report}
use Rattle.milter_mta_outcome.specs.ReceivedReplies.{options_received, reply_received}
use Rattle.milter_mta_outcome.specs.Outcomes.{at_connection}
use Rattle.milter_mta_outcome.specs.EditWeights.{weight_of_all}
use Rattle.milter_mta_outcome.specs.Transactions.{stage_first}
use Rattle.milter_mta_outcome.specs.TransactionVerdicts.{ends_dialogue, is_of_connection, last_verdict, left_after, number_after, with_verdict}
use Rattle.milter_mta.specs.declared.mta_core.Want.{Want}
use Rattle.milter_mta.specs.declared.mta_core.Want.TheVariants as wants
use Rattle.milter_mta.specs.Mta.{FilterConnection, Mta, Position, at_packet}
use Rattle.milter_mta.specs.Mta.Position.{Ended, Offering, Quitting, Sending}
use Rattle.milter_mta.specs.Replies.{negotiated_on, at, byte_at, fails, framed, received, received_at, received_byte, replied, replied_at, ruled_on, unread_is}
use Rattle.milter_mta.specs.Output.{advanced, advanced_in, dialled, dialled_if, sent, sent_in, want}
use Rattle.milter_mta.specs.Dispositions.{acted_in, defaulted, lost, report, settled_all, settled_first, settled_in}
use Rattle.milter_mta.specs.AnyFilter.{ConnectionIsReported, HaveLastVerdict, IsConnectionOnDialogue, IsOnDialogue, IsOptionOnDialogue, IsPositionOnDialogue, client_reports, without_messages}
use Rattle.milter_mta_outcome.specs.Losses.{is_by_client}
use Rattle.milter_mta.proofs.AnyFilter.{ReceivedFacts, byte-goes}
use Rattle.milter_mta.proofs.Numbers.{last_added}

-- ---- one report more, or those of all messages

client-append : (xs ys : List Report) → client_reports (xs ++ ys) ≡ client_reports xs ++ client_reports ys
client-append xs ys = filter-append (λ (r : Report). is_by_client r.settled_by) xs ys

-- where a message is left, no verdict on the connection came
no_verdict : (m : Mta) (message : MailObject) (messages : List MailObject) → m.session.messages ≡ message ∷ messages → ConnectionIsReported m
    → (verdict : Verdict) → m.connection ≡ Some verdict → ⊥
no_verdict m message messages e is verdict c = let no : message ∷ messages ≡ [] = sym e ∙ (is.some verdict c).0 in absurd cc

-- a message is settled by another report
one-other : (m new : Mta) (message : MailObject) (messages : List MailObject) (r : Report) → m.session.messages ≡ message ∷ messages → ConnectionIsReported m
    → is_by_client r.settled_by ≡ false → new.reports ≡ m.reports ++ r ∷ [] → new.connection ≡ m.connection → ConnectionIsReported new
one-other m new message messages r e is other reports connection =
    record {
      none = λ c.
          ap client_reports reports ∙ client-append m.reports (r ∷ [])
          ∙ ap (λ (b : Bool). client_reports m.reports ++ (if b then r ∷ [] else [])) other
          ∙ append-nil (client_reports m.reports) ∙ is.none (sym connection ∙ c);
      some = λ verdict c. absurd (no_verdict m message messages e is verdict (sym connection ∙ c));
    }

lost-keeps : (m : Mta) (loss : Loss) → ConnectionIsReported m → ConnectionIsReported (lost loss m)
lost-keeps m loss is = by_messages m.session.messages refl
  where
    by_messages : (messages : List MailObject) → m.session.messages ≡ messages → ConnectionIsReported (record (defaulted loss (acted_in m.filter_connection) messages m) { filter_connection = None })
    by_messages [] e = record { none = is.none; some = is.some }
    by_messages (message ∷ messages) e = one-other m _ message messages _ e is refl refl refl

-- ---- by a verdict

module _ (m : Mta) (is : ConnectionIsReported m) (verdict : Verdict) (acted : List Acted)
    (last : option_map (λ (a : Acted). a.verdict) (last_verdict acted) ≡ Some verdict) where
  abbrev f : MailObject → Report
  f message = report acted (at_connection verdict message) Connection

  all-client : (messages : List MailObject) → client_reports (map f messages) ≡ map f messages
  all-client [] = refl
  all-client (message ∷ messages) = ap (λ (l : List Report). f message ∷ l) (all-client messages)

  all-last : (messages : List MailObject) → HaveLastVerdict verdict (map f messages)
  all-last [] = tt
  all-last (message ∷ messages) = (last, all-last messages)

  none_before : (message : MailObject) (messages : List MailObject) → m.session.messages ≡ message ∷ messages → client_reports m.reports ≡ []
  none_before message messages e = by_connection m.connection refl
    where
      by_connection : (c : Option Verdict) → m.connection ≡ c → client_reports m.reports ≡ []
      by_connection None c = is.none c
      by_connection (Some v) c = absurd (no_verdict m message messages e is v c)

  all-keeps : (message : MailObject) (messages : List MailObject) → m.session.messages ≡ message ∷ messages → ConnectionIsReported (settled_all verdict acted m)
  all-keeps message messages e =
      let these : client_reports (settled_all verdict acted m).reports ≡ map f m.session.messages =
      client-append m.reports (map f m.session.messages)
      ∙ ap (λ (l : List Report). l ++ client_reports (map f m.session.messages)) (none_before message messages e)
      ∙ all-client m.session.messages in
      record {
        none = λ c. absurd cc;
        some = λ v c. (
          refl,
          λ none. let no : map f (message ∷ messages) ≡ [] = ap (map f) (sym e) ∙ sym these ∙ none in absurd cc,
          subst (λ (u : Verdict). HaveLastVerdict u (client_reports (settled_all verdict acted m).reports)) (same_Some verdict v c)
              (subst (HaveLastVerdict verdict) (sym these) (all-last m.session.messages)),
        );
      }

  settled-keeps : (negotiated : Negotiated) (stage : Stage) (es : List Edit) → m.session.messages ≢ []
      → (client : Bool) → ConnectionIsReported (if client then settled_all verdict acted m else settled_first negotiated stage es verdict acted m)
  settled-keeps negotiated stage es left client = by_messages m.session.messages refl client
    where
      by_messages : (messages : List MailObject) → m.session.messages ≡ messages → (client : Bool)
          → ConnectionIsReported (if client then settled_all verdict acted m else settled_in negotiated stage es verdict acted messages m)
      by_messages [] e client = absurd (left e)
      by_messages (message ∷ messages) e true = all-keeps message messages e
      by_messages (message ∷ messages) e false = one-other m _ message messages _ e is refl refl refl

ruled-keeps : (m : Mta) (negotiated : Negotiated) (stage : Stage) (verdicts : List Acted) (es : List Edit) (left : List Command) (verdict : Verdict) → ConnectionIsReported m
    → m.session.messages ≢ [] → ConnectionIsReported (ruled_on negotiated stage (with_verdict stage verdict verdicts) es left verdict m)
ruled-keeps m negotiated stage verdicts es left verdict is some = by_end (ends_dialogue stage verdict (with_verdict stage verdict verdicts) left)
  where
    last : option_map (λ (a : Acted). a.verdict) (last_verdict (with_verdict stage verdict verdicts)) ≡ Some verdict
    last =
        ap (option_map (λ (a : Acted). a.verdict))
        (last_added verdicts (record { stage = stage; nth = number_after stage (last_verdict verdicts); verdict = verdict }))

    by_end : (ends : Bool) → ConnectionIsReported (if ends then (if is_of_connection stage then settled_all verdict (with_verdict stage verdict verdicts) m
        else settled_first negotiated stage es verdict (with_verdict stage verdict verdicts) m)
        else at (at_packet (Sending negotiated (with_verdict stage verdict verdicts) [] (left_after verdict left))) m)
    by_end true = settled-keeps m is verdict (with_verdict stage verdict verdicts) last negotiated stage es some (is_of_connection stage)
    by_end false = record { none = is.none; some = is.some }

-- ---- the calls

module _ (m : Mta) (is : ConnectionIsReported m) where
  same : (filter_connection : Option FilterConnection) → ConnectionIsReported (record m { filter_connection = filter_connection })
  same filter_connection = record { none = is.none; some = is.some }

  pub dialled-keeps : ConnectionIsReported (dialled m)
  dialled-keeps = by_want (want m)
    where
      by_want : (w : Want) → ConnectionIsReported (dialled_if w m)
      by_want wants.Dial = same (Some (at_packet Offering))
      by_want wants.Send = is
      by_want wants.Receive = is
      by_want wants.Done = is

  pub advanced-keeps : ConnectionIsReported (advanced m)
  advanced-keeps = by_filter_connection m.filter_connection (want m)
    where
      by_filter_connection : (filter_connection : Option FilterConnection) (w : Want) → ConnectionIsReported (advanced_in filter_connection w m)
      by_filter_connection None w = is
      by_filter_connection (Some filter_connection) wants.Send = same _
      by_filter_connection (Some filter_connection) wants.Dial = is
      by_filter_connection (Some filter_connection) wants.Receive = is
      by_filter_connection (Some filter_connection) wants.Done = is

  pub sent-keeps : (count : ℕ) → ConnectionIsReported (sent count m)
  sent-keeps count = by_filter_connection m.filter_connection
    where
      by_filter_connection : (filter_connection : Option FilterConnection) → ConnectionIsReported (sent_in count filter_connection m)
      by_filter_connection None = is
      by_filter_connection (Some filter_connection) = same _

  pub lost-reported : (loss : Loss) → ConnectionIsReported (lost loss m)
  lost-reported loss = lost-keeps m loss is

  -- ---- what is received

  failed : (fault : MtaFault) → ConnectionIsReported (fails fault m).mta
  failed fault = lost-keeps m (Fault fault) is

  received_at-keeps : (negotiated : Negotiated) (stage : Stage) (verdicts : List Acted) (es : List Edit) (left : List Command) (found : Result Action MtaFault) → m.session.messages ≢ []
      → ConnectionIsReported (received_at negotiated stage verdicts es left found m).mta
  received_at-keeps negotiated stage verdicts es left (Err fault) some = failed fault
  received_at-keeps negotiated stage verdicts es left (Ok (received_as.Edit edit)) some = same _
  received_at-keeps negotiated stage verdicts es left (Ok (received_as.Verdict verdict)) some = ruled-keeps m negotiated stage verdicts es (drop 1 left) verdict is some

  replied_at-keeps : (negotiated : Negotiated) (verdicts : List Acted) (es : List Edit) (left : List Command) (stage : Option Stage) (reply : Reply) → m.session.messages ≢ []
      → ConnectionIsReported (replied_at negotiated verdicts es left stage reply m).mta
  replied_at-keeps negotiated verdicts es left None reply some = failed NotAtThisStage
  replied_at-keeps negotiated verdicts es left (Some stage) reply some = received_at-keeps negotiated stage verdicts es left (reply_received negotiated stage (weight_of_all es) reply) some

  negotiated-keeps : (found : Result Negotiated MtaFault) → ConnectionIsReported (negotiated_on found m).mta
  negotiated-keeps (Err fault) = failed fault
  negotiated-keeps (Ok negotiated) = same _

  replied-keeps : (position : Position) (reply : Reply) → IsPositionOnDialogue m.config.offer (without_messages m.session) m.session.messages position → ConnectionIsReported (replied position reply m).mta
  replied-keeps Offering reply on = negotiated-keeps (options_received m.config.offer reply)
  replied-keeps (Sending negotiated verdicts es left) reply on = replied_at-keeps negotiated verdicts es left (stage_first left) reply on.1
  replied-keeps Quitting reply on = failed Early
  replied-keeps Ended reply on = failed Early

  framed-keeps : (position : Position) (found : Result Reply WireFault) → IsPositionOnDialogue m.config.offer (without_messages m.session) m.session.messages position
      → ConnectionIsReported (framed position found m).mta
  framed-keeps position (Err fault) on = failed (Wire fault)
  framed-keeps position (Ok reply) on = replied-keeps position reply on

  unread-keeps : (filter_connection : FilterConnection) (unread : List ℕ) (fault : Option WireFault) (frame : Option (Frame × List ℕ)) → IsConnectionOnDialogue m.config.offer (without_messages m.session) m.session.messages filter_connection
      → ConnectionIsReported (unread_is filter_connection unread fault frame m).mta
  unread-keeps filter_connection unread (Some fault) frame on = failed (Wire fault)
  unread-keeps filter_connection unread None None on = same _
  unread-keeps filter_connection unread None (Some first) on = framed-keeps filter_connection.position (frame_reply first.0) on.position

  byte-keeps : (byte : ℕ) → IsOnDialogue m → ConnectionIsReported (byte_at m.filter_connection byte m).mta
  byte-keeps byte on = by_filter_connection m.filter_connection on
    where
      by_owed : (filter_connection : FilterConnection) → IsConnectionOnDialogue m.config.offer (without_messages m.session) m.session.messages filter_connection → (owed : Bool)
          → ConnectionIsReported (if owed then unread_is filter_connection (filter_connection.unread ++ byte ∷ []) (length_fault (filter_connection.unread ++ byte ∷ [])) (first_frame (filter_connection.unread ++ byte ∷ [])) m else fails Early m).mta
      by_owed filter_connection is true = unread-keeps filter_connection _ _ _ is
      by_owed filter_connection is false = failed Early

      by_filter_connection : (filter_connection : Option FilterConnection) → IsOptionOnDialogue m.config.offer (without_messages m.session) m.session.messages filter_connection → ConnectionIsReported (byte_at filter_connection byte m).mta
      by_filter_connection None is = failed Early
      by_filter_connection (Some filter_connection) is = by_owed filter_connection is filter_connection.owed

received-on-keeps : ReceivedFacts → (bytes : List ℕ) (m : Mta) (loss : Option Loss) → IsOnDialogue m → ConnectionIsReported m
    → ConnectionIsReported (fold received_byte (record { mta = m; loss = loss }) bytes).mta
received-on-keeps facts [] m loss on is = is
received-on-keeps facts (byte ∷ bytes) m (Some loss) on is = received-on-keeps facts bytes m (Some loss) on is
received-on-keeps facts (byte ∷ bytes) m None on is =
    let after = byte_at m.filter_connection byte m in
    received-on-keeps facts bytes after.mta after.loss (byte-goes facts m on byte).on_dialogue (byte-keeps m is byte on)

pub received-keeps : ReceivedFacts → (m : Mta) (bytes : List ℕ) → IsOnDialogue m → ConnectionIsReported m → ConnectionIsReported (received m bytes).mta
received-keeps facts m bytes on is = received-on-keeps facts bytes m None on is
