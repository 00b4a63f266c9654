-- What is received of a filter, whatever filter it is: one byte after the other.
use Rattle.std.specs.Prelude.{ℕ, List, [], ◌∷◌, ◌++◌, Option, None, Some, Result, Ok, Err, if◌then◌else◌, is_some}
use Rattle.std.specs.List.{fold}
use Rattle.milter_fields.specs.declared.fault.WireFault.{WireFault}
use Rattle.milter_fields.specs.Stream.{Frame, first_frame, length_fault}
use Rattle.milter_wire.specs.declared.negotiation.Negotiated.{Negotiated}
use Rattle.milter_wire.specs.declared.reply.Reply.{Reply}
use Rattle.milter_wire.specs.declared.stage.Stage.{Stage}
use Rattle.milter_wire.specs.declared.stage.Stage.TheVariants.{Rcpt}
use Rattle.milter_wire.specs.Frames.{frame_reply}
use Rattle.milter_message.specs.declared.edit.Edit.{Edit}
use Rattle.milter_protocol.specs.declared.answer.Action.{Action}
use Rattle.milter_protocol.specs.declared.answer.Action.TheVariants as actions
use Rattle.milter_mta_outcome.specs.declared.loss.Loss.{Loss}
use Rattle.milter_mta_outcome.specs.declared.loss.Loss.TheVariants.{Fault, Memory}
use Rattle.milter_mta_outcome.specs.declared.loss.MtaFault.{MtaFault}
use Rattle.milter_mta_outcome.specs.declared.loss.MtaFault.TheVariants.{Early, NotAtThisStage, Wire}
use Rattle.milter_mta_outcome.specs.ReceivedReplies.{options_received, reply_received}
use Rattle.milter_mta_outcome.specs.EditWeights.{weight_of_all}
use Rattle.milter_mta_connection.specs.declared.channel_state.ExpectedReply.{ExpectedReply}
use Rattle.milter_mta_connection.specs.declared.channel_state.ExpectedReply.TheVariants as expects
use Rattle.milter_mta_connection.specs.declared.filter_event.FilterEvent.{FilterEvent}
use Rattle.milter_mta_connection.specs.declared.filter_event.FilterEvent.TheVariants as events
use Rattle.milter_mta_connection.specs.Channel.{Channel, cleared, is_owed}

-- the channel then, the last event, and the loss, if the filter was lost after that
pub record After : Type 0 where
  pub channel : Channel
  pub event : FilterEvent
  pub loss : Option Loss

abbrev pub goes_on : FilterEvent → Channel → After
goes_on event c = record { channel = c; event = event; loss = None }

-- the edits of a verdict that came before a loss; without a verdict none count
abbrev pub edits_left : FilterEvent → List Edit → List Edit
edits_left (events.Verdict verdict) edits = edits
edits_left other edits = []

-- the filter was lost after this event
abbrev pub ended : FilterEvent → Channel → Channel
ended event c = record (cleared c) { edits = edits_left event c.edits }

abbrev pub lost_by : Loss → FilterEvent → Channel → After
lost_by loss event c = record { channel = ended event c; event = event; loss = Some loss }

abbrev pub fails : MtaFault → FilterEvent → Channel → After
fails fault event c = lost_by (Fault fault) event c

abbrev pub latest : FilterEvent → Option FilterEvent → FilterEvent
latest before None = before
latest before (Some event) = event

-- ---- one reply

abbrev pub negotiated_on : Result Negotiated MtaFault → FilterEvent → Channel → After
negotiated_on (Err fault) event c = fails fault event c
negotiated_on (Ok negotiated) event c =
    goes_on events.Negotiated (record c { negotiated = Some negotiated; expected = expects.Nothing; unread = [] })

-- after an edit the verdict is still expected
abbrev pub received_as : Result Action MtaFault → FilterEvent → Channel → After
received_as (Err fault) event c = fails fault event c
received_as (Ok (actions.Edit edit)) event c =
    goes_on events.InProgress (record c { edits = c.edits ++ edit ∷ []; unread = [] })
received_as (Ok (actions.Verdict verdict)) event c =
    goes_on (events.Verdict verdict) (record c { expected = expects.Nothing; unread = [] })

-- a reply to a command of this stage
abbrev pub replied_at : Option Negotiated → Stage → Reply → FilterEvent → Channel → After
replied_at None stage reply event c = fails NotAtThisStage event c
replied_at (Some negotiated) stage reply event c =
    received_as (reply_received negotiated stage (weight_of_all c.edits) reply) event c

-- the verdicts on an unknown command are those that a recipient has
abbrev pub replied : ExpectedReply → Reply → FilterEvent → Channel → After
replied expects.Nothing reply event c = fails Early event c
replied expects.Options reply event c = negotiated_on (options_received c.offer reply) event c
replied (expects.Verdict stage) reply event c = replied_at c.negotiated stage reply event c
replied expects.Unknown reply event c = replied_at c.negotiated Rcpt reply event c

-- ---- one byte

-- memory that was refused is no fault of the filter
abbrev pub wire_loss : WireFault → Loss
wire_loss WireFault.NoMemory = Memory
wire_loss other = Fault (Wire other)

abbrev pub framed : Result Reply WireFault → FilterEvent → Channel → After
framed (Err fault) event c = fails (Wire fault) event c
framed (Ok reply) event c = replied c.expected reply event c

abbrev pub unread_is : List ℕ → Option WireFault → Option (Frame × List ℕ) → FilterEvent → Channel → After
unread_is unread (Some fault) frame event c = fails (Wire fault) event c
unread_is unread None None event c = goes_on event (record c { unread = unread })
unread_is unread None (Some first) event c = framed (frame_reply first.0) event c

-- while no reply is owed nothing may come
abbrev pub byte_at : FilterEvent → Channel → ℕ → After
byte_at event c byte =
    if is_owed c then
    (let unread = c.unread ++ byte ∷ [] in unread_is unread (length_fault unread) (first_frame unread) event c)
    else fails Early event c

-- after a loss nothing more is received
abbrev pub received_byte : After → ℕ → After
received_byte after byte = if is_some after.loss then after else byte_at after.event after.channel byte

-- ---- a piece

abbrev pub received : Channel → List ℕ → After
received c bytes = fold received_byte (goes_on events.Nothing c) bytes
