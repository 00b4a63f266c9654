-- What a mail server's end makes of what a filter sends, whatever filter it is: one byte after the other.
use Rattle.std.specs.Prelude.{ℕ, true, List, [], ◌∷◌, ◌++◌, drop, Option, None, Some, Result, Ok, Err, if◌then◌else◌, is_some}
use Rattle.std.specs.List.{fold}
use Rattle.milter_fields.specs.declared.fault.WireFault.{WireFault}
use Rattle.milter_fields.specs.Stream.{Frame, first_frame, length_fault}
use Rattle.milter_wire.specs.declared.negotiation.Negotiated.{Negotiated}
use Rattle.milter_wire.specs.declared.command.Command.{Command}
use Rattle.milter_wire.specs.declared.reply.Reply.{Reply}
use Rattle.milter_wire.specs.declared.stage.Stage.{Stage}
use Rattle.milter_wire.specs.declared.verdict.Verdict.{Verdict}
use Rattle.milter_wire.specs.Frames.{frame_reply}
use Rattle.milter_message.specs.declared.edit.Edit.{Edit}
use Rattle.milter_message.specs.MailObject.{MailObject}
use Rattle.milter_mail.specs.MailSession.{MailSession}
use Rattle.milter_mail.specs.Plan.{plan}
use Rattle.milter_protocol.specs.declared.answer.Action.{Action}
use Rattle.milter_protocol.specs.declared.answer.Action.TheVariants as received_reply
use Rattle.milter_mta_outcome.specs.declared.acted_verdicts.Acted.{Acted}
use Rattle.milter_mta_outcome.specs.declared.loss.Loss.{Loss}
use Rattle.milter_mta_outcome.specs.declared.loss.Loss.TheVariants.{Fault, Memory}
use Rattle.milter_mta_outcome.specs.declared.loss.MtaFault.{MtaFault}
use Rattle.milter_mta_outcome.specs.declared.loss.MtaFault.TheVariants.{Early, NotAtThisStage, Wire}
use Rattle.milter_mta_outcome.specs.ReceivedReplies.{options_received, reply_received}
use Rattle.milter_mta_outcome.specs.EditWeights.{weight_of_all}
use Rattle.milter_mta_outcome.specs.Transactions.{stage_first}
use Rattle.milter_mta_outcome.specs.TransactionVerdicts.{ends_dialogue, left_after, with_verdict}
use Rattle.milter_mta.specs.Mta.{FilterConnection, Mta, Position, at_packet}
use Rattle.milter_mta.specs.Mta.Position.{Offering, Sending, Quitting}
use Rattle.milter_mta.specs.Dispositions.{lost, settled}

-- what it is then, and the loss, if the filter was lost
pub record After : Type 0 where
  pub mta : Mta
  pub loss : Option Loss

abbrev pub goes_on : Mta → After
goes_on m = record { mta = m; loss = None }

abbrev pub fails : MtaFault → Mta → After
fails fault m = record { mta = lost (Fault fault) m; loss = Some (Fault fault) }

-- ---- one reply

abbrev pub at : FilterConnection → Mta → Mta
at filter_connection m = record m { filter_connection = Some filter_connection }

-- the plan of the first message
abbrev pub opening_position : Negotiated → MailSession → List MailObject → Position
opening_position negotiated session [] = Quitting
opening_position negotiated session (message ∷ messages) = Sending negotiated [] [] (plan negotiated session message)

abbrev pub negotiated_on : Result Negotiated MtaFault → Mta → After
negotiated_on (Err fault) m = fails fault m
negotiated_on (Ok negotiated) m = goes_on (at (at_packet (opening_position negotiated m.session m.session.messages)) m)

-- an edit leaves the reply owed
abbrev pub with_edit : Negotiated → List Acted → List Edit → List Command → Mta → Mta
with_edit negotiated acted edits left m =
    at (record (at_packet (Sending negotiated acted edits left)) { owed = true }) m

-- by the last of these verdicts, after which these commands are left
abbrev pub ruled_on : Negotiated → Stage → List Acted → List Edit → List Command → Verdict → Mta → Mta
ruled_on negotiated stage acted edits left verdict m =
    if ends_dialogue stage verdict acted left then settled negotiated stage edits verdict acted m
    else at (at_packet (Sending negotiated acted [] (left_after verdict left))) m

abbrev pub received_at : Negotiated → Stage → List Acted → List Edit → List Command → Result Action MtaFault
    → Mta → After
received_at negotiated stage acted edits left (Err fault) m = fails fault m
received_at negotiated stage acted edits left (Ok (received_reply.Edit edit)) m =
    goes_on (with_edit negotiated acted (edits ++ edit ∷ []) left m)
received_at negotiated stage acted edits left (Ok (received_reply.Verdict verdict)) m =
    goes_on (ruled_on negotiated stage (with_verdict stage verdict acted) edits (drop 1 left) verdict m)

abbrev pub replied_at : Negotiated → List Acted → List Edit → List Command → Option Stage → Reply → Mta → After
replied_at negotiated acted edits left None reply m = fails NotAtThisStage m
replied_at negotiated acted edits left (Some stage) reply m =
    received_at negotiated stage acted edits left (reply_received negotiated stage (weight_of_all edits) reply) m

-- a reply to the packet that was sent
abbrev pub replied : Position → Reply → Mta → After
replied Offering reply m = negotiated_on (options_received m.config.offer reply) m
replied (Sending negotiated acted edits left) reply m =
    replied_at negotiated acted edits left (stage_first left) reply m
replied other reply m = fails Early m

-- ---- one byte

-- memory that was refused is no fault of the filter
abbrev pub wire_loss : WireFault → Loss
wire_loss WireFault.NoMemory = Memory
wire_loss other = Fault (Wire other)

abbrev pub framed : Position → Result Reply WireFault → Mta → After
framed position (Err fault) m = fails (Wire fault) m
framed position (Ok reply) m = replied position reply m

abbrev pub unread_is : FilterConnection → List ℕ → Option WireFault → Option (Frame × List ℕ) → Mta → After
unread_is filter_connection unread (Some fault) frame m = fails (Wire fault) m
unread_is filter_connection unread None None m = goes_on (at (record filter_connection { unread = unread }) m)
unread_is filter_connection unread None (Some first) m = framed filter_connection.position (frame_reply first.0) m

-- while no reply is owed nothing may come
abbrev pub byte_at : Option FilterConnection → ℕ → Mta → After
byte_at None byte m = fails Early m
byte_at (Some filter_connection) byte m =
    if filter_connection.owed then
    (let unread = filter_connection.unread ++ byte ∷ [] in
    unread_is filter_connection unread (length_fault unread) (first_frame unread) m)
    else fails Early m

-- after a loss nothing more is received
abbrev pub received_byte : After → ℕ → After
received_byte after byte = if is_some after.loss then after else byte_at after.mta.filter_connection byte after.mta

-- ---- a piece

abbrev pub received : Mta → List ℕ → After
received m bytes = fold received_byte (goes_on m) bytes
