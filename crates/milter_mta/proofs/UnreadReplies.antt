-- What becomes of a mail server's end by a piece of what a filter sends.
use Rattle.std.proofs.Common.{◌≡◌, ◌≢◌, ℕ, false, List, [], ◌∷◌, Option, None, Some, Result, Ok, Err, refl, ◌∙◌, ap, length, ◌<◌, arith}
use Rattle.std.specs.List.{fold}
use Rattle.std.specs.Prelude.{if◌then◌else◌}
use Rattle.milter_fields.specs.declared.fault.WireFault.{WireFault}
use Rattle.milter_wire.specs.declared.negotiation.Negotiated.{Negotiated}
use Rattle.milter_wire.specs.declared.reply.Reply.{Reply}
use Rattle.milter_wire.specs.declared.stage.Stage.{Stage}
use Rattle.milter_wire.specs.declared.verdict.Verdict.{Verdict}
use Rattle.milter_message.specs.declared.edit.Edit.{Edit}
use Rattle.milter_message.specs.MailObject.{MailObject}
use Rattle.milter_wire.specs.declared.command.Command.{Command}
use Rattle.milter_protocol.specs.declared.answer.Action.{Action}
use Rattle.milter_protocol.specs.declared.answer.Action.TheVariants as received_reply
use Rattle.milter_mta_outcome.specs.declared.acted_verdicts.Acted.{Acted}
use Rattle.milter_mta_outcome.specs.declared.loss.Loss.{Loss}
use Rattle.milter_mta_outcome.specs.declared.loss.Loss.TheVariants.{Fault}
use Rattle.milter_mta_outcome.specs.declared.loss.MtaFault.{MtaFault}
use Rattle.milter_mta_outcome.specs.declared.loss.MtaFault.TheVariants.{Early, NotAtThisStage, Wire}
use Rattle.milter_mta_outcome.specs.ReceivedReplies.{options_received, reply_received}
use Rattle.milter_mta_outcome.specs.EditWeights.{weight_of_all}
use Rattle.milter_mta_outcome.specs.Transactions.{stage_first}
use Rattle.milter_mta_outcome.specs.TransactionVerdicts.{ends_dialogue, is_of_connection, left_after, with_verdict}
use Rattle.milter_mta.specs.Mta.{FilterConnection, Mta, Position, at_packet}
use Rattle.milter_mta.specs.Mta.Position.{Offering, Sending, Quitting, Ended}
use Rattle.milter_mta.specs.Replies.{After, negotiated_on, at, byte_at, fails, framed, goes_on, received, received_at, received_byte, replied, replied_at, ruled_on}
use Rattle.milter_mta.specs.Dispositions.{acted_at, defaulted, lost, settled_all, settled_in}
use Rattle.milter_mta.proofs.ReceivedFrames.{lost-stays}

-- a message is under way where a command was sent
abbrev HasMessage : List MailObject → Position → Type 0
HasMessage messages (Sending negotiated acted edits left) = messages ≢ []
HasMessage messages other = Unit {0}

pub message-left : (messages : List MailObject) (position : Position) → messages ≢ [] → HasMessage messages position
message-left messages Offering some = tt
message-left messages (Sending negotiated acted edits left) some = some
message-left messages Quitting some = tt
message-left messages Ended some = tt

-- ---- what a reply or a loss leaves, whatever is unread

module _ (l r : FilterConnection) (m : Mta) (same : acted_at l.position ≡ acted_at r.position) where
  defaulted-over : (loss : Loss) (acted : List Acted) (messages : List MailObject)
      → record (defaulted loss acted messages (at l m)) { filter_connection = None } ≡ record (defaulted loss acted messages (at r m)) { filter_connection = None }
  defaulted-over loss acted [] = refl
  defaulted-over loss acted (message ∷ messages) = refl

  -- a loss goes by the verdicts alone
  pub lost-over : (loss : Loss) → lost loss (at l m) ≡ lost loss (at r m)
  lost-over loss =
      ap (λ (acted : List Acted). let after = defaulted loss acted m.session.messages (at l m) in record after { filter_connection = None }) same
      ∙ defaulted-over loss (acted_at r.position) m.session.messages

  pub fails-over : (fault : MtaFault) → fails fault (at l m) ≡ fails fault (at r m)
  fails-over fault = ap (λ (n : Mta). record { mta = n; loss = Some (Fault fault) }) (lost-over (Fault fault))

  settled_in-over : (negotiated : Negotiated) (stage : Stage) (edits : List Edit) (verdict : Verdict) (acted : List Acted) (messages : List MailObject) → messages ≢ []
      → settled_in negotiated stage edits verdict acted messages (at l m) ≡ settled_in negotiated stage edits verdict acted messages (at r m)
  settled_in-over negotiated stage edits verdict acted [] some = absurd (some refl)
  settled_in-over negotiated stage edits verdict acted (message ∷ messages) some = refl

  ruled_on-over : (negotiated : Negotiated) (stage : Stage) (acted : List Acted) (edits : List Edit) (left : List Command) (verdict : Verdict) → m.session.messages ≢ []
      → ruled_on negotiated stage acted edits left verdict (at l m) ≡ ruled_on negotiated stage acted edits left verdict (at r m)
  ruled_on-over negotiated stage acted edits left verdict some =
      let first = settled_in-over negotiated stage edits verdict acted m.session.messages some in
      ap (λ (n : Mta). if ends_dialogue stage verdict acted left then (if is_of_connection stage then settled_all verdict acted (at l m) else n)
      else at (at_packet (Sending negotiated acted [] (left_after verdict left))) m) first

  received_at-over : (negotiated : Negotiated) (stage : Stage) (acted : List Acted) (edits : List Edit) (left : List Command) (reply : Result Action MtaFault) → m.session.messages ≢ []
      → received_at negotiated stage acted edits left reply (at l m) ≡ received_at negotiated stage acted edits left reply (at r m)
  received_at-over negotiated stage acted edits left (Err fault) some = fails-over fault
  received_at-over negotiated stage acted edits left (Ok (received_reply.Edit edit)) some = refl
  received_at-over negotiated stage acted edits left (Ok (received_reply.Verdict verdict)) some =
      ap (λ (n : Mta). goes_on n) (ruled_on-over negotiated stage (with_verdict stage verdict acted) edits _ verdict some)

  replied_at-over : (negotiated : Negotiated) (acted : List Acted) (edits : List Edit) (left : List Command) (stage : Option Stage) (reply : Reply) → m.session.messages ≢ []
      → replied_at negotiated acted edits left stage reply (at l m) ≡ replied_at negotiated acted edits left stage reply (at r m)
  replied_at-over negotiated acted edits left None reply some = fails-over NotAtThisStage
  replied_at-over negotiated acted edits left (Some stage) reply some = received_at-over negotiated stage acted edits left (reply_received negotiated stage (weight_of_all edits) reply) some

  negotiated_on-over : (negotiated : Result Negotiated MtaFault) → negotiated_on negotiated (at l m) ≡ negotiated_on negotiated (at r m)
  negotiated_on-over (Err fault) = fails-over fault
  negotiated_on-over (Ok negotiated) = refl

  replied-over : (position : Position) (reply : Reply) → HasMessage m.session.messages position → replied position reply (at l m) ≡ replied position reply (at r m)
  replied-over Offering reply has = negotiated_on-over (options_received m.config.offer reply)
  replied-over (Sending negotiated acted edits left) reply has = replied_at-over negotiated acted edits left (stage_first left) reply has
  replied-over Quitting reply has = fails-over Early
  replied-over Ended reply has = fails-over Early

  pub framed-over : (position : Position) (reply : Result Reply WireFault) → HasMessage m.session.messages position → framed position reply (at l m) ≡ framed position reply (at r m)
  framed-over position (Err fault) has = fails-over (Wire fault)
  framed-over position (Ok reply) has = replied-over position reply has

-- ---- while no reply is owed

pub early : (filter_connection : FilterConnection) (m : Mta) (bytes : List ℕ) → filter_connection.owed ≡ false → 0 < length bytes → received (at filter_connection m) bytes ≡ fails Early (at filter_connection m)
early filter_connection m [] owed some = absurd (omega arith)
early filter_connection m (x ∷ bytes) owed some =
    let step : received_byte (goes_on (at filter_connection m)) x ≡ fails Early (at filter_connection m) = rw owed refl in
    ap (λ (a : After). fold received_byte a bytes) step ∙ lost-stays _ _ bytes

pub early-at_none : (m : Mta) (byte : ℕ) (bytes : List ℕ) → m.filter_connection ≡ None → received m (byte ∷ bytes) ≡ fails Early m
early-at_none m byte bytes unconnected =
    let step : received_byte (goes_on m) byte ≡ fails Early m = ap (λ (l : Option FilterConnection). byte_at l byte m) unconnected in
    ap (λ (a : After). fold received_byte a bytes) step ∙ lost-stays _ _ bytes
