-- What a mail server's end receives is what the plan makes of the events of its channel.
use Rattle.std.proofs.Common.{◌≡◌, ◌≢◌, ℕ, Bool, true, false, List, [], ◌∷◌, ◌++◌, Option, None, Some, Result, Ok, Err, drop, refl, sym, ◌∙◌, ap, arith, take, subst}
use Rattle.std.specs.Prelude.{if◌then◌else◌}
use Rattle.std.specs.List.{fold}
use Rattle.milter_fields.specs.declared.fault.WireFault.{WireFault}
use Rattle.milter_fields.specs.Stream.{Frame, first_frame, length_fault}
use Rattle.milter_wire.specs.declared.negotiation.Negotiated.{Negotiated}
use Rattle.milter_wire.specs.declared.command.Command.{Command}
use Rattle.milter_wire.specs.declared.reply.Reply.{Reply}
use Rattle.milter_wire.specs.declared.stage.Stage.{Stage}
use Rattle.milter_wire.specs.declared.verdict.Verdict.{Verdict}
use Rattle.milter_wire.specs.Frames.{frame_reply}
use Rattle.milter_wire.specs.Negotiation.{is_answered}
use Rattle.milter_message.specs.declared.edit.Edit.{Edit}
use Rattle.milter_message.specs.MailObject.{MailObject}
use Rattle.milter_protocol.specs.declared.answer.Action.{Action}
use Rattle.milter_protocol.specs.declared.answer.Action.TheVariants as actions
use Rattle.milter_mta_outcome.specs.declared.acted_verdicts.Acted.{Acted}
use Rattle.milter_mta_outcome.specs.declared.loss.Loss.{Loss}
use Rattle.milter_mta_outcome.specs.declared.loss.Loss.TheVariants.{Fault, Memory, Reset, Timeout}
use Rattle.milter_mta_outcome.specs.declared.loss.MtaFault.{MtaFault}
use Rattle.milter_mta_outcome.specs.declared.loss.MtaFault.TheVariants.{Early, Wire}
use Rattle.milter_mta_outcome.specs.ReceivedReplies.{options_received, reply_received}
use Rattle.milter_mta_outcome.specs.EditWeights.{weight_of_all}
use Rattle.milter_mta_outcome.specs.Transactions.{stage_first}
use Rattle.milter_mta_outcome.specs.TransactionVerdicts.{ends_dialogue, is_of_connection, left_after, with_verdict}
use Rattle.milter_mta_connection.specs.declared.channel_state.ExpectedReply.{ExpectedReply}
use Rattle.milter_mta_connection.specs.declared.channel_state.ExpectedReply.TheVariants as expects
use Rattle.milter_mta_connection.specs.declared.filter_event.Fed.{Fed}
use Rattle.milter_mta_connection.specs.declared.filter_event.FilterEvent.{FilterEvent}
use Rattle.milter_mta_connection.specs.declared.filter_event.FilterEvent.TheVariants as events
use Rattle.milter_mta_connection.specs.Channel.{Channel, is_expecting, is_owed}
use Rattle.milter_mta_connection.specs.ChannelParts.{IsLostAfter as IsLostAfterChannel, Receives, ReceivesBy}
use Rattle.milter_mta_connection.specs.Received as on_channel
use Rattle.milter_mta_connection.specs.ReplyRules.{IsWaiting}
use Rattle.milter_mta_connection.proofs.ReceivedFrames.{lost-stays}
use Rattle.milter_mta.specs.Cores.{IsLostAfter, ReceivesBytes, is_owed_in}
use Rattle.milter_mta.specs.Driven.{IsWithMessage, driven, driven_by, expected_by, expected_first, lost_by, opened_by, owed_channel, owing, result_of, ruled_at, with_edits}
use Rattle.milter_mta.specs.Dispositions.{acted_at, lost, settled_all, settled_in}
use Rattle.milter_mta.specs.Mta.{FilterConnection, Mta, Position, at_packet}
use Rattle.milter_mta.specs.Mta.Position.{Offering, Sending, Quitting, Ended}
use Rattle.milter_mta.specs.Replies as mta
use Rattle.milter_mta.proofs.UnreadReplies.{early, lost-over}
use Rattle.milter_mta.proofs.ReceivedFrames.{lost-stays as lost_stays}

-- ---- what a verdict leaves doesn't depend on the connection

settled_in-same : (l : FilterConnection) (m : Mta) (negotiated : Negotiated) (stage : Stage) (edits : List Edit) (verdict : Verdict) (acted : List Acted) (messages : List MailObject) → messages ≢ []
    → settled_in negotiated stage edits verdict acted messages (mta.at l m) ≡ settled_in negotiated stage edits verdict acted messages m
settled_in-same l m negotiated stage edits verdict acted [] some = absurd (some refl)
settled_in-same l m negotiated stage edits verdict acted (message ∷ messages) some = refl

ruled_on-same : (l : FilterConnection) (m : Mta) (negotiated : Negotiated) (stage : Stage) (acted : List Acted) (edits : List Edit) (left : List Command) (verdict : Verdict) → m.session.messages ≢ []
    → mta.ruled_on negotiated stage acted edits left verdict (mta.at l m) ≡ mta.ruled_on negotiated stage acted edits left verdict m
ruled_on-same l m negotiated stage acted edits left verdict some =
    ap (λ (n : Mta). if ends_dialogue stage verdict acted left then (if is_of_connection stage then settled_all verdict acted m else n)
    else mta.at (at_packet (Sending negotiated acted [] (left_after verdict left))) m) (settled_in-same l m negotiated stage edits verdict acted m.session.messages some)

-- it leaves a connection on which no reply is owed
record NothingIsOwed (m : Mta) : Type 0 where
  connection : FilterConnection
  connection_is : m.filter_connection ≡ Some connection
  none_owed : connection.owed ≡ false

settled_in-owed : (m : Mta) (negotiated : Negotiated) (stage : Stage) (edits : List Edit) (verdict : Verdict) (acted : List Acted) (messages : List MailObject) → messages ≢ []
    → NothingIsOwed (settled_in negotiated stage edits verdict acted messages m)
settled_in-owed m negotiated stage edits verdict acted [] some = absurd (some refl)
settled_in-owed m negotiated stage edits verdict acted (message ∷ messages) some = record { connection = _; connection_is = refl; none_owed = refl }

ruled-owed : (ends of_client : Bool) (m : Mta) (negotiated : Negotiated) (stage : Stage) (acted : List Acted) (edits : List Edit) (left : List Command) (verdict : Verdict) → m.session.messages ≢ []
    → NothingIsOwed (if ends then (if of_client then settled_all verdict acted m else settled_in negotiated stage edits verdict acted m.session.messages m)
    else mta.at (at_packet (Sending negotiated acted [] (left_after verdict left))) m)
ruled-owed true true m negotiated stage acted edits left verdict some = record { connection = _; connection_is = refl; none_owed = refl }
ruled-owed true false m negotiated stage acted edits left verdict some = settled_in-owed m negotiated stage edits verdict acted m.session.messages some
ruled-owed false of_client m negotiated stage acted edits left verdict some = record { connection = _; connection_is = refl; none_owed = refl }

-- ---- once a verdict, or the options, came

-- more bytes are early, for both
over : (position : Position) (m after : Mta) (h : FilterEvent) (c : Channel) (bytes : List ℕ) → NothingIsOwed after → c.expected ≡ expects.Nothing → c.pending ≡ []
    → driven_by position h c m ≡ after → driven_by position h (on_channel.ended h c) m ≡ after
    → fold mta.received_byte (mta.goes_on after) bytes ≡ driven position m (fold on_channel.received_byte (on_channel.goes_on h c) bytes)
over position m after h c [] owed none pending is emptied_is = ap (λ (n : Mta). mta.goes_on n) (sym is)
over position m after h c (x ∷ bytes) owed none pending is emptied_is =
    let same : after ≡ mta.at owed.connection after = ap (λ (o : Option FilterConnection). record after { filter_connection = o }) owed.connection_is in
    let here : mta.received after (x ∷ bytes) ≡ mta.fails Early after =
    ap (λ (n : Mta). mta.received n (x ∷ bytes)) same ∙ early owed.connection after (x ∷ bytes) owed.none_owed (omega arith) ∙ ap (λ (n : Mta). mta.fails Early n) (sym same) in
    let not_owed : on_channel.received_byte (on_channel.goes_on h c) x ≡ on_channel.fails Early h c = rw (none, pending) refl in
    let there : fold on_channel.received_byte (on_channel.goes_on h c) (x ∷ bytes) ≡ on_channel.fails Early h c =
    ap (λ (a : on_channel.After). fold on_channel.received_byte a bytes) not_owed ∙ lost-stays h (on_channel.ended h c) (Fault Early) bytes in
    here
    ∙ ap (λ (n : Mta). mta.fails Early n) (sym emptied_is)
    ∙ ap (λ (a : on_channel.After). driven position m a) (sym there)

-- ---- while the verdict on a command is due

module _ (negotiated : Negotiated) (acted : List Acted) (left : List Command) (m : Mta) (some : m.session.messages ≢ []) (stage : Stage) (first : stage_first left ≡ Some stage) where
  abbrev connection : List Edit → List ℕ → FilterConnection
  connection edits unread = owing (Sending negotiated acted edits left) unread

  abbrev channel : List Edit → List ℕ → Channel
  channel edits unread = record { offer = m.config.offer; negotiated = Some negotiated; expected = expects.Verdict stage; edits = edits; pending = []; unread = unread }

  abbrev position : Position
  position = Sending negotiated acted [] left

  waiting : (h : FilterEvent) (c : Channel) → IsWaiting h → driven_by position h c m ≡ mta.at (connection c.edits c.unread) m
  waiting events.Nothing c waits = refl
  waiting events.InProgress c waits = refl
  waiting events.Negotiated c waits = absurd waits
  waiting (events.Verdict verdict) c waits = absurd waits

  lost-both : (fault : MtaFault) (h : FilterEvent) (edits : List Edit) (unread bytes : List ℕ) → IsWaiting h
      → fold mta.received_byte (mta.fails fault (mta.at (connection edits unread) m)) bytes ≡ driven position m (fold on_channel.received_byte (on_channel.fails fault h (channel edits unread)) bytes)
  lost-both fault h edits unread bytes waits =
      lost_stays _ (Fault fault) bytes
      ∙ ap (λ (n : Mta). record { mta = n; loss = Some (Fault fault) }) (lost-over (connection edits unread) (connection (on_channel.edits_left h edits) []) m refl (Fault fault))
      ∙ ap (λ (n : Mta). record { mta = lost (Fault fault) n; loss = Some (Fault fault) }) (sym (waiting h (on_channel.ended h (channel edits unread)) waits))
      ∙ ap (λ (a : on_channel.After). driven position m a) (sym (lost-stays h (on_channel.ended h (channel edits unread)) (Fault fault) bytes))

  -- the same after these bytes, whatever was event
  abbrev Goes : List ℕ → Type 0
  Goes bytes = (h : FilterEvent) (edits : List Edit) (unread : List ℕ) → IsWaiting h
      → fold mta.received_byte (mta.goes_on (mta.at (connection edits unread) m)) bytes ≡ driven position m (fold on_channel.received_byte (on_channel.goes_on h (channel edits unread)) bytes)

  ruled : (h : FilterEvent) (edits : List Edit) (unread bytes : List ℕ) (verdict : Verdict)
      → fold mta.received_byte (mta.goes_on (mta.ruled_on negotiated stage (with_verdict stage verdict acted) edits (drop 1 left) verdict (mta.at (connection edits unread) m))) bytes
      ≡ driven position m (fold on_channel.received_byte (on_channel.goes_on (events.Verdict verdict) (record (channel edits unread) { expected = expects.Nothing; unread = [] })) bytes)
  ruled h edits unread bytes verdict =
      let is : ruled_at negotiated (stage_first left) acted edits left verdict m ≡ mta.ruled_on negotiated stage (with_verdict stage verdict acted) edits (drop 1 left) verdict m =
      ap (λ (s : Option Stage). ruled_at negotiated s acted edits left verdict m) first in
      ap (λ (n : Mta). fold mta.received_byte (mta.goes_on n) bytes) (ruled_on-same (connection edits unread) m negotiated stage _ edits (drop 1 left) verdict some)
      ∙ over position m _ (events.Verdict verdict) (record (channel edits unread) { expected = expects.Nothing; unread = [] }) bytes
      (ruled-owed (ends_dialogue stage verdict (with_verdict stage verdict acted) (drop 1 left)) (is_of_connection stage) m negotiated stage _ edits (drop 1 left) verdict some) refl refl is is

  by_action : (action : Result Action MtaFault) (h : FilterEvent) (edits : List Edit) (unread bytes : List ℕ) → IsWaiting h → Goes bytes
      → fold mta.received_byte (mta.received_at negotiated stage acted edits left action (mta.at (connection edits unread) m)) bytes
      ≡ driven position m (fold on_channel.received_byte (on_channel.received_as action h (channel edits unread)) bytes)
  by_action (Err fault) h edits unread bytes waits goes = lost-both fault h edits unread bytes waits
  by_action (Ok (actions.Edit edit)) h edits unread bytes waits goes = goes events.InProgress (edits ++ edit ∷ []) [] tt
  by_action (Ok (actions.Verdict verdict)) h edits unread bytes waits goes = ruled h edits unread bytes verdict

  by_reply : (reply : Result Reply WireFault) (h : FilterEvent) (edits : List Edit) (unread bytes : List ℕ) → IsWaiting h → Goes bytes
      → fold mta.received_byte (mta.framed (Sending negotiated acted edits left) reply (mta.at (connection edits unread) m)) bytes
      ≡ driven position m (fold on_channel.received_byte (on_channel.framed reply h (channel edits unread)) bytes)
  by_reply (Err fault) h edits unread bytes waits goes = lost-both (Wire fault) h edits unread bytes waits
  by_reply (Ok reply) h edits unread bytes waits goes =
      ap (λ (s : Option Stage). fold mta.received_byte (mta.replied_at negotiated acted edits left s reply (mta.at (connection edits unread) m)) bytes) first
      ∙ by_action (reply_received negotiated stage (weight_of_all edits) reply) h edits unread bytes waits goes

  by_frame : (now : List ℕ) (fault : Option WireFault) (frame : Option (Frame × List ℕ)) (h : FilterEvent) (edits : List Edit) (unread bytes : List ℕ) → IsWaiting h → Goes bytes
      → fold mta.received_byte (mta.unread_is (connection edits unread) now fault frame (mta.at (connection edits unread) m)) bytes
      ≡ driven position m (fold on_channel.received_byte (on_channel.unread_is now fault frame h (channel edits unread)) bytes)
  by_frame now (Some fault) frame h edits unread bytes waits goes = lost-both (Wire fault) h edits unread bytes waits
  by_frame now None None h edits unread bytes waits goes = goes h edits now waits
  by_frame now None (Some found) h edits unread bytes waits goes = by_reply (frame_reply found.0) h edits unread bytes waits goes

  pub received-command : (bytes : List ℕ) → Goes bytes
  received-command [] h edits unread waits = ap (λ (n : Mta). mta.goes_on n) (sym (waiting h (channel edits unread) waits))
  received-command (x ∷ bytes) h edits unread waits =
      by_frame (unread ++ x ∷ []) (length_fault (unread ++ x ∷ [])) (first_frame (unread ++ x ∷ [])) h edits unread bytes waits (received-command bytes)

-- ---- while the reply to the offer is due

module _ (m : Mta) where
  abbrev offered : List ℕ → Channel
  offered unread = record { offer = m.config.offer; negotiated = None; expected = expects.Options; edits = []; pending = []; unread = unread }

  waiting_offer : (h : FilterEvent) (c : Channel) → IsWaiting h → driven_by Offering h c m ≡ mta.at (owing Offering c.unread) m
  waiting_offer events.Nothing c waits = refl
  waiting_offer events.InProgress c waits = refl
  waiting_offer events.Negotiated c waits = absurd waits
  waiting_offer (events.Verdict verdict) c waits = absurd waits

  lost_offer : (fault : MtaFault) (h : FilterEvent) (unread bytes : List ℕ) → IsWaiting h
      → fold mta.received_byte (mta.fails fault (mta.at (owing Offering unread) m)) bytes ≡ driven Offering m (fold on_channel.received_byte (on_channel.fails fault h (offered unread)) bytes)
  lost_offer fault h unread bytes waits =
      lost_stays _ (Fault fault) bytes
      ∙ ap (λ (n : Mta). record { mta = n; loss = Some (Fault fault) }) (lost-over (owing Offering unread) (owing Offering []) m refl (Fault fault))
      ∙ ap (λ (n : Mta). record { mta = lost (Fault fault) n; loss = Some (Fault fault) }) (sym (waiting_offer h (on_channel.ended h (offered unread)) waits))
      ∙ ap (λ (a : on_channel.After). driven Offering m a) (sym (lost-stays h (on_channel.ended h (offered unread)) (Fault fault) bytes))

  by_options : (result : Result Negotiated MtaFault) (h : FilterEvent) (unread bytes : List ℕ) → IsWaiting h
      → fold mta.received_byte (mta.negotiated_on result (mta.at (owing Offering unread) m)) bytes
      ≡ driven Offering m (fold on_channel.received_byte (on_channel.negotiated_on result h (offered unread)) bytes)
  by_options (Err fault) h unread bytes waits = lost_offer fault h unread bytes waits
  by_options (Ok negotiated) h unread bytes waits =
      over Offering m (opened_by (Some negotiated) m) events.Negotiated (record (offered unread) { negotiated = Some negotiated; expected = expects.Nothing; unread = [] }) bytes
      (record { connection = _; connection_is = refl; none_owed = refl }) refl refl refl refl

  by_offer_frame : (now : List ℕ) (fault : Option WireFault) (frame : Option (Frame × List ℕ)) (h : FilterEvent) (unread bytes : List ℕ) → IsWaiting h
      → ((g : FilterEvent) (us : List ℕ) → IsWaiting g → fold mta.received_byte (mta.goes_on (mta.at (owing Offering us) m)) bytes ≡ driven Offering m (fold on_channel.received_byte (on_channel.goes_on g (offered us)) bytes))
      → fold mta.received_byte (mta.unread_is (owing Offering unread) now fault frame (mta.at (owing Offering unread) m)) bytes
      ≡ driven Offering m (fold on_channel.received_byte (on_channel.unread_is now fault frame h (offered unread)) bytes)
  by_offer_frame now (Some fault) frame h unread bytes waits goes = lost_offer (Wire fault) h unread bytes waits
  by_offer_frame now None None h unread bytes waits goes = goes h now waits
  by_offer_frame now None (Some found) h unread bytes waits goes = by_offer_reply (frame_reply found.0)
    where
      by_offer_reply : (reply : Result Reply WireFault)
          → fold mta.received_byte (mta.framed Offering reply (mta.at (owing Offering unread) m)) bytes ≡ driven Offering m (fold on_channel.received_byte (on_channel.framed reply h (offered unread)) bytes)
      by_offer_reply (Err fault) = lost_offer (Wire fault) h unread bytes waits
      by_offer_reply (Ok reply) = by_options (options_received m.config.offer reply) h unread bytes waits

  pub received-offer : (bytes : List ℕ) (h : FilterEvent) (unread : List ℕ) → IsWaiting h
      → fold mta.received_byte (mta.goes_on (mta.at (owing Offering unread) m)) bytes ≡ driven Offering m (fold on_channel.received_byte (on_channel.goes_on h (offered unread)) bytes)
  received-offer [] h unread waits = ap (λ (n : Mta). mta.goes_on n) (sym (waiting_offer h (offered unread) waits))
  received-offer (x ∷ bytes) h unread waits =
      by_offer_frame (unread ++ x ∷ []) (length_fault (unread ++ x ∷ [])) (first_frame (unread ++ x ∷ [])) h unread bytes waits (received-offer bytes)

-- ---- whatever is expected

record IsExpectedAt (negotiated : Negotiated) (first : Option Stage) : Type 0 where
  stage : Stage
  first_is : first ≡ Some stage
  expected_is : expected_first negotiated first ≡ expects.Verdict stage

expected_stage : (negotiated : Negotiated) (first : Option Stage) → is_expecting (expected_first negotiated first) ≡ true → IsExpectedAt negotiated first
expected_stage negotiated None expecting = absurd cc
expected_stage negotiated (Some stage) expecting = record { stage = stage; first_is = refl; expected_is = by_answered (is_answered negotiated stage) expecting }
  where
    by_answered : (answered : Bool) → is_expecting (if answered then expects.Verdict stage else expects.Nothing) ≡ true → (if answered then expects.Verdict stage else expects.Nothing) ≡ expects.Verdict stage
    by_answered true a = refl
    by_answered false a = absurd cc

-- the edits before don't matter
driven_by-edits : (negotiated : Negotiated) (acted : List Acted) (l r : List Edit) (left : List Command) (m : Mta) (h : FilterEvent) (c : Channel)
    → driven_by (Sending negotiated acted l left) h c m ≡ driven_by (Sending negotiated acted r left) h c m
driven_by-edits negotiated acted l r left m events.Nothing c = refl
driven_by-edits negotiated acted l r left m events.InProgress c = refl
driven_by-edits negotiated acted l r left m events.Negotiated c = refl
driven_by-edits negotiated acted l r left m (events.Verdict verdict) c = refl

driven-edits : (negotiated : Negotiated) (acted : List Acted) (l r : List Edit) (left : List Command) (m : Mta) (after : on_channel.After)
    → driven (Sending negotiated acted l left) m after ≡ driven (Sending negotiated acted r left) m after
driven-edits negotiated acted l r left m after = ap (λ (n : Mta). lost_by after.loss n) (driven_by-edits negotiated acted l r left m after.event after.channel)

pub received-any : (m : Mta) (position : Position) (unread bytes : List ℕ) → IsWithMessage position m → is_expecting (expected_by position) ≡ true
    → mta.received (mta.at (owing position unread) m) bytes ≡ driven position m (on_channel.received (owed_channel m.config.offer position unread) bytes)
received-any m Offering unread bytes some expecting = received-offer m bytes events.Nothing unread tt
received-any m (Sending negotiated acted edits left) unread bytes some expecting =
    let s = expected_stage negotiated (stage_first left) expecting in
    received-command negotiated acted left m some s.stage s.first_is bytes events.Nothing edits unread tt
    ∙ driven-edits negotiated acted [] edits left m
    (on_channel.received (record (owed_channel m.config.offer (Sending negotiated acted edits left) unread) { expected = expects.Verdict s.stage }) bytes)
    ∙ ap (λ (a : ExpectedReply). driven (Sending negotiated acted edits left) m (on_channel.received (record (owed_channel m.config.offer (Sending negotiated acted edits left) unread) { expected = a }) bytes)) (sym s.expected_is)
received-any m Quitting unread bytes some expecting = absurd cc
received-any m Ended unread bytes some expecting = absurd cc

-- ---- a piece

acted-edits : (l r : List Edit) (position : Position) → acted_at (with_edits l position) ≡ acted_at (with_edits r position)
acted-edits l r Offering = refl
acted-edits l r (Sending negotiated acted edits left) = refl
acted-edits l r Quitting = refl
acted-edits l r Ended = refl

-- while a reply is owed the message is under way still, and so is the reply owed to the mail server's end
record IsStillOwed (position : Position) (h : FilterEvent) (c : Channel) (m : Mta) : Type 0 where
  owed : is_owed_in (driven_by position h c m).filter_connection ≡ true
  lost_is : (loss : Loss) → lost loss (driven_by position h (on_channel.ended h c) m) ≡ lost loss (driven_by position h c m)

still_owed : (position : Position) (h : FilterEvent) (c : Channel) (m : Mta) → IsWaiting h → IsStillOwed position h c m
still_owed position events.Nothing c m waits = record { owed = refl; lost_is = λ loss. lost-over (owing (with_edits [] position) []) (owing (with_edits c.edits position) c.unread) m (acted-edits [] c.edits position) loss }
still_owed position events.InProgress c m waits = record { owed = refl; lost_is = λ loss. lost-over (owing (with_edits [] position) []) (owing (with_edits c.edits position) c.unread) m (acted-edits [] c.edits position) loss }
still_owed position events.Negotiated c m waits = absurd waits
still_owed position (events.Verdict verdict) c m waits = absurd waits

module _ (once : (c : Channel) (bytes : List ℕ) → is_owed (on_channel.received c bytes).channel ≡ true → IsWaiting (on_channel.received c bytes).event)
    (m : Mta) (position : Position) (unread piece : List ℕ) (some : IsWithMessage position m) (expecting : is_expecting (expected_by position) ≡ true) where
  abbrev start : Channel
  start = owed_channel m.config.offer position unread

  refused-any : (new : Channel) (h : FilterEvent) → IsLostAfterChannel start piece new h
      → IsLostAfter (mta.at (owing position unread) m) piece (lost Memory (driven_by position h new m))
  refused-any new h l =
      let came : on_channel.received start (take l.count piece) ≡ on_channel.goes_on h l.before = l.received_before in
      let owed : is_owed (on_channel.received start (take l.count piece)).channel ≡ true =
      subst (λ (a : on_channel.After). is_owed a.channel ≡ true) (sym came) l.owed_before in
      let waits : IsWaiting h = subst (λ (a : on_channel.After). IsWaiting a.event) came (once start (take l.count piece) owed) in
      let still = still_owed position h l.before m waits in
      record {
        count = l.count;
        before = driven_by position h l.before m;
        within = l.within;
        received_before = received-any m position unread (take l.count piece) some expecting ∙ ap (λ (a : on_channel.After). driven position m a) came;
        owed_before = still.owed;
        lost_then = ap (λ (c : Channel). lost Memory (driven_by position h c m)) l.lost_then ∙ still.lost_is Memory;
      }

  fed-by : (new : Channel) (h : FilterEvent) (loss : Option Loss) → ReceivesBy loss start piece new h
      → ReceivesBytes (mta.at (owing position unread) m) piece (driven position m (record { channel = new; event = h; loss = loss })).mta (result_of loss)
  fed-by new h None receives = received-any m position unread piece some expecting ∙ ap (λ (a : on_channel.After). driven position m a) receives
  fed-by new h (Some Memory) receives = refused-any new h receives
  fed-by new h (Some Reset) receives = received-any m position unread piece some expecting ∙ ap (λ (a : on_channel.After). driven position m a) receives
  fed-by new h (Some Timeout) receives = received-any m position unread piece some expecting ∙ ap (λ (a : on_channel.After). driven position m a) receives
  fed-by new h (Some (Fault fault)) receives = received-any m position unread piece some expecting ∙ ap (λ (a : on_channel.After). driven position m a) receives

  pub fed-any : (new : Channel) (fed : Fed) → Receives start piece new fed
      → ReceivesBytes (mta.at (owing position unread) m) piece (driven position m (record { channel = new; event = fed.event; loss = fed.loss })).mta (result_of fed.loss)
  fed-any new fed receives = fed-by new fed.event fed.loss receives
