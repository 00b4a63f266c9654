-- A mail server's end that plays a session, as a channel to the filter that the plan of its messages drives.
use Rattle.std.specs.Prelude.{◌≡◌, ◌≢◌, ◌⊎◌, ℕ, Bool, true, false, List, [], ◌∷◌, drop, Option, None, Some, Result, Ok, Err}
use Rattle.milter_wire.specs.declared.options.Options.{Options}
use Rattle.milter_wire.specs.declared.negotiation.Negotiated.{Negotiated}
use Rattle.milter_wire.specs.declared.command.Command.{Command}
use Rattle.milter_wire.specs.declared.stage.Stage.{Stage}
use Rattle.milter_wire.specs.declared.verdict.Verdict.{Verdict}
use Rattle.milter_message.specs.declared.edit.Edit.{Edit}
use Rattle.milter_mta_outcome.specs.declared.acted_verdicts.Acted.{Acted}
use Rattle.milter_mta_outcome.specs.declared.loss.Loss.{Loss}
use Rattle.milter_mta_outcome.specs.Transactions.{stage_first}
use Rattle.milter_mta_outcome.specs.TransactionVerdicts.{with_verdict}
use Rattle.milter_mta_connection.specs.declared.channel_state.ExpectedReply.{ExpectedReply}
use Rattle.milter_mta_connection.specs.declared.channel_state.ExpectedReply.TheVariants as expects
use Rattle.milter_mta_connection.specs.declared.filter_event.FilterEvent.{FilterEvent}
use Rattle.milter_mta_connection.specs.declared.filter_event.FilterEvent.TheVariants as events
use Rattle.milter_mta_connection.specs.Channel.{Channel, expected_at, queue_expecting}
use Rattle.milter_mta_connection.specs.Received.{After as ChannelAfter}
use Rattle.milter_mta.specs.Mta.{FilterConnection, Mta, Position, at_packet}
use Rattle.milter_mta.specs.Mta.Position.{Offering, Sending}
use Rattle.milter_mta.specs.Replies.{After, at, opening_position, ruled_on}
use Rattle.milter_mta.specs.Dispositions.{lost}

-- ---- the channel of a mail server's end

abbrev pub expected_first : Negotiated → Option Stage → ExpectedReply
expected_first negotiated None = expects.Nothing
expected_first negotiated (Some stage) = expected_at negotiated stage

-- the reply that the next packet is to get
abbrev pub expected_by : Position → ExpectedReply
expected_by Offering = expects.Options
expected_by (Sending negotiated acted edits left) = expected_first negotiated (stage_first left)
expected_by other = expects.Nothing

abbrev pub negotiated_by : Position → Option Negotiated
negotiated_by (Sending negotiated acted edits left) = Some negotiated
negotiated_by other = None

abbrev pub edits_by : Position → List Edit
edits_by (Sending negotiated acted edits left) = edits
edits_by other = []

abbrev pub with_edits : List Edit → Position → Position
with_edits edits (Sending negotiated acted before left) = Sending negotiated acted edits left
with_edits edits other = other

-- while the reply to this is owed, of which these bytes came
abbrev pub owed_channel : Options → Position → List ℕ → Channel
owed_channel offer position unread =
    record {
      offer = offer;
      negotiated = negotiated_by position;
      expected = expected_by position;
      edits = edits_by position;
      pending = [];
      unread = unread;
    }

-- after an abort none is
abbrev pub expected_after : Bool → Position → ExpectedReply
expected_after true position = expects.Nothing
expected_after false position = expected_by position

-- the channel with the packet of this command, which gets this reply
abbrev pub queued : Option Command → ExpectedReply → Channel → Channel
queued None expected c = c
queued (Some command) expected c = queue_expecting command expected c

-- ---- a channel in step with its plan

abbrev pub IsNegotiatedAt : Position → Option Negotiated → Type 0
IsNegotiatedAt (Sending negotiated acted edits left) by = by ≡ Some negotiated
IsNegotiatedAt Offering by = by ≡ None
IsNegotiatedAt other by = Unit {0}

abbrev pub HasEditsAt : Position → List Edit → Type 0
HasEditsAt Offering edits = edits ≡ []
HasEditsAt other edits = Unit {0}

-- the packet's reply is expected once it is queued, and until it came
abbrev pub ExpectsAt : Position → List ℕ → ExpectedReply → Type 0
ExpectsAt position [] expected = (expected ≡ expects.Nothing) ⊎ (expected ≡ expected_by position)
ExpectsAt position (byte ∷ bytes) expected = expected ≡ expected_by position

-- the plan is at this position, perhaps after an abort
pub record IsInStep (aborts : Bool) (position : Position) (channel : Channel) : Type 0 where
  pub negotiated : IsNegotiatedAt position channel.negotiated
  pub edits : HasEditsAt position channel.edits
  pub aborting : aborts ≡ true → channel.expected ≡ expects.Nothing
  pub expecting : aborts ≡ false → ExpectsAt position channel.pending channel.expected

-- ---- what the plan makes of an event

-- the reply to this is owed, and these bytes of it came
abbrev pub owing : Position → List ℕ → FilterConnection
owing position unread = record (at_packet position) { owed = true; unread = unread }

-- a message under way is the first of those that are left
abbrev pub IsWithMessage : Position → Mta → Type 0
IsWithMessage (Sending negotiated acted edits left) m = m.session.messages ≢ []
IsWithMessage other m = Unit {0}

abbrev pub ruled_at : Negotiated → Option Stage → List Acted → List Edit → List Command → Verdict → Mta → Mta
ruled_at negotiated None acted edits left verdict m = m
ruled_at negotiated (Some stage) acted edits left verdict m =
    ruled_on negotiated stage (with_verdict stage verdict acted) edits (drop 1 left) verdict m

-- a verdict on the first of the commands that are left
abbrev pub ruled_in : Position → Verdict → List Edit → Mta → Mta
ruled_in (Sending negotiated acted before left) verdict edits m =
    ruled_at negotiated (stage_first left) acted edits left verdict m
ruled_in other verdict edits m = m

-- the first message begins by what was negotiated
abbrev pub opened_by : Option Negotiated → Mta → Mta
opened_by None m = m
opened_by (Some negotiated) m = at (at_packet (opening_position negotiated m.session m.session.messages)) m

abbrev pub driven_by : Position → FilterEvent → Channel → Mta → Mta
driven_by position (events.Verdict verdict) c m = ruled_in position verdict c.edits m
driven_by position events.Negotiated c m = opened_by c.negotiated m
driven_by position other c m = at (owing (with_edits c.edits position) c.unread) m

abbrev pub lost_by : Option Loss → Mta → After
lost_by None m = record { mta = m; loss = None }
lost_by (Some loss) m = record { mta = lost loss m; loss = Some loss }

-- a mail server's end at this position, after what came on the channel
abbrev pub driven : Position → Mta → ChannelAfter → After
driven position m after = lost_by after.loss (driven_by position after.event after.channel m)

-- what a mail server's end answers
abbrev pub result_of : Option Loss → Result Unit Loss
result_of None = Ok tt
result_of (Some loss) = Err loss
