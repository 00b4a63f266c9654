-- A mail server's connection to a filter: which calls are taken, what is sent of them, and what a verdict leaves.
use Rattle.std.specs.Prelude.{◌≡◌, ◌⊎◌, ℕ, nat_lt, min, Bool, true, false, not, ◌&&◌, ◌||◌, List, [], ◌∷◌, ◌++◌, All, Option, None, Some, Result, Ok, Err, if◌then◌else◌}
use Rattle.milter_wire.specs.declared.codes.TheConstants.{SMFIC_UNKNOWN}
use Rattle.milter_wire.specs.declared.command.Command.{Command}
use Rattle.milter_wire.specs.declared.command.Command.TheVariants as commands
use Rattle.milter_wire.specs.declared.negotiation.Negotiated.{Negotiated}
use Rattle.milter_wire.specs.declared.stage.Stage.{Stage}
use Rattle.milter_wire.specs.declared.stage.Stage.TheVariants as stages
use Rattle.milter_wire.specs.declared.verdict.Verdict.{Verdict}
use Rattle.milter_wire.specs.Command.{Fits}
use Rattle.milter_wire.specs.Negotiation.{has, has_leading_space, is_answered, is_sent}
use Rattle.milter_wire.specs.Stages.{macro_command_of, macro_stage_of}
use Rattle.milter_fields.specs.declared.header.Header.{Header}
use Rattle.milter_fields.specs.declared.pair.Pair.{Pair}
use Rattle.milter_wire.specs.declared.macro_stage.MacroStage.{MacroStage}
use Rattle.milter_wire.specs.declared.options.Options.{Options}
use Rattle.milter_wire.specs.declared.options.TheConstants.Protocol.{NOUNKNOWN}
use Rattle.milter_mail.specs.ChosenMacros.{chosen_at}
use Rattle.milter_mail.specs.Steps.{macro_step}
use Rattle.milter_message.specs.LeadingSpace.{sent_header}
use Rattle.milter_protocol.specs.Commands.{is_end_by}
use Rattle.milter_protocol.specs.StageOrder.{may_follow, rank_of}
use Rattle.milter_protocol.specs.Verdicts.{is_final_at, is_skip}
use Rattle.milter_mta_outcome.specs.declared.loss.Loss.{Loss}
use Rattle.milter_mta_connection.specs.declared.channel_state.ExpectedReply.{ExpectedReply}
use Rattle.milter_mta_connection.specs.declared.channel_state.ExpectedReply.TheVariants as expects
use Rattle.milter_mta_connection.specs.declared.filter_event.Fed.{Fed}
use Rattle.milter_mta_connection.specs.declared.filter_event.FilterEvent.{FilterEvent}
use Rattle.milter_mta_connection.specs.declared.filter_event.FilterEvent.TheVariants as events
use Rattle.milter_mta_connection.specs.Channel.{Channel, cleared, fresh as fresh_channel, is_idle, queue, queue_all, without_edits}
use Rattle.milter_mta_connection.specs.declared.call_outcome.CallFault.{CallFault}
use Rattle.milter_mta_connection.specs.declared.call_outcome.CallFault.TheVariants as call_faults
use Rattle.milter_mta_connection.specs.declared.call_outcome.CallOutcome.{CallOutcome}
use Rattle.milter_mta_connection.specs.declared.call_outcome.CallOutcome.TheVariants.{LeftOut, NoReply, VerdictDue}
use Rattle.milter_mta_connection.specs.declared.phase.Phase.{Phase}
use Rattle.milter_mta_connection.specs.declared.phase.Phase.TheVariants.{NoMessage, InMessage, Skipping, MessageOver, ClientOver, Closed}
use Rattle.milter_mta_connection.specs.declared.phase.TheConstants.{UNKNOWN_VERSION_MIN}
use Rattle.milter_mta_connection.specs.declared.mta_connection.Want.{Want}
use Rattle.milter_mta_connection.specs.declared.mta_connection.Want.TheVariants as wants

pub record Connection : Type 0 where
  pub channel : Channel
  pub phase : Phase
  -- of the last stage that was called; where no message is under way, that of the greeting at most
  pub last_rank : ℕ

-- it was made: the offer is pending
abbrev pub fresh : Options → Connection
fresh offer = record { channel = fresh_channel offer; phase = NoMessage; last_rank = 0 }

-- ---- which calls are taken

-- the stages that begin a connection or a message
abbrev pub begins : Stage → Bool
begins stages.Connect = true
begins stages.Helo = true
begins stages.Mail = true
begins other = false

abbrev pub is_of_client : Stage → Bool
is_of_client stages.Connect = true
is_of_client stages.Helo = true
is_of_client other = false

abbrev pub is_in_order : Phase → ℕ → Stage → Bool
is_in_order NoMessage last stage = begins stage && may_follow last stage
is_in_order InMessage last stage = may_follow last stage
is_in_order Skipping last stage = may_follow last stage
is_in_order MessageOver last stage = not (is_of_client stage)
is_in_order ClientOver last stage = true
is_in_order Closed last stage = false

-- why no call is taken, whatever it is
abbrev pub fault_in : Phase → Bool → Option CallFault
fault_in Closed idle = Some call_faults.Closed
fault_in phase true = None
fault_in phase false = Some call_faults.Busy

abbrev pub any_fault : Connection → Option CallFault
any_fault c = fault_in c.phase (is_idle c.channel)

abbrev pub or_out_of_order : Bool → Option CallFault → Option CallFault
or_out_of_order in_order (Some fault) = Some fault
or_out_of_order true None = None
or_out_of_order false None = Some call_faults.OutOfOrder

-- why a command of this stage isn't taken
abbrev pub fault_at : Stage → Connection → Option CallFault
fault_at stage c = or_out_of_order (is_in_order c.phase c.last_rank stage) (any_fault c)

-- ---- what a call answers

-- it is sent, and its verdict is due where a reply is expected; nothing is pending where it is left out
abbrev pub outcome_by : List ℕ → ExpectedReply → CallOutcome
outcome_by [] expected = LeftOut
outcome_by (byte ∷ bytes) expects.Nothing = NoReply
outcome_by (byte ∷ bytes) expected = VerdictDue

abbrev pub outcome_of : Channel → CallOutcome
outcome_of c = outcome_by c.pending c.expected

-- a call leaves this where no fault speaks against it and its packets fit; else nothing has changed, and where its
-- packets don't fit it says so
abbrev pub CallLeaves : Option CallFault → Type 0 → Connection → Connection → Connection → Result CallOutcome CallFault
    → Type 0
CallLeaves fault fits after old new (Ok outcome) =
    (fault ≡ None) × (new ≡ after) × (outcome ≡ outcome_of new.channel) × fits
CallLeaves fault fits after old new (Err call_faults.NoMemory) = new ≡ old
CallLeaves fault fits after old new (Err call_faults.DoesNotFit) = (fault ≡ None) × (new ≡ old) × ¬ fits
CallLeaves fault fits after old new (Err other) = (fault ≡ Some other) × (new ≡ old)

-- ---- a command of a stage

-- no packet of it is sent: the dialogue is over, the body is skipped, or the stage isn't sent
abbrev pub is_over : Phase → Stage → Bool
is_over ClientOver stage = true
is_over MessageOver stages.Mail = false
is_over MessageOver stage = true
is_over Skipping stages.Body = true
is_over phase stage = false

abbrev pub is_left_out : Option Negotiated → Phase → Stage → Bool
is_left_out None phase stage = true
is_left_out (Some negotiated) phase stage = if is_over phase stage then true else not (is_sent negotiated stage)

-- a message whose dialogue ended early is given up before the next one
abbrev pub abort_before : Phase → Stage → List Command
abort_before MessageOver stages.Mail = commands.Abort ∷ []
abort_before phase stage = []

-- those macros of the stage that the filter asked for; where it has no list of the stage, all of them
abbrev pub asked_pairs : Option Negotiated → Option MacroStage → List Pair → List Pair
asked_pairs (Some negotiated) (Some stage) pairs = chosen_at negotiated.lists stage pairs
asked_pairs negotiated stage pairs = pairs

abbrev pub pairs_for : Connection → Stage → List Pair → List Pair
pairs_for c stage pairs = asked_pairs c.channel.negotiated (macro_stage_of stage) pairs

-- the packets of a command, after that of its macros for the command of this code
abbrev pub packets_of : Bool → Option ℕ → Command → List Pair → List Command
packets_of true code command pairs = []
packets_of false code command pairs = macro_step code pairs ++ command ∷ []

-- all that is sent of a command with these macros
abbrev pub packets_for : Stage → Command → List Pair → Connection → List Command
packets_for stage command pairs c =
    abort_before c.phase stage
    ++ packets_of (is_left_out c.channel.negotiated c.phase stage) (macro_command_of stage) command pairs

abbrev pub with_packets : Bool → Option ℕ → Command → List Pair → Channel → Channel
with_packets true code command pairs c = c
with_packets false code command pairs c = queue command (queue_all (macro_step code pairs) c)

-- the channel with all that is sent of a command
abbrev pub with_command : Stage → Command → List Pair → Phase → Channel → Channel
with_command stage command pairs phase c =
    with_packets (is_left_out c.negotiated phase stage) (macro_command_of stage) command pairs
    (queue_all (abort_before phase stage) c)

abbrev pub phase_after : Phase → Stage → Phase
phase_after ClientOver stage = ClientOver
phase_after phase stages.Mail = InMessage
phase_after phase stage = phase

abbrev pub rank_after : Phase → ℕ → Stage → ℕ
rank_after ClientOver last stage = last
rank_after MessageOver last stages.Mail = rank_of stages.Mail
rank_after MessageOver last stage = last
rank_after phase last stage = rank_of stage

-- after a command of this stage with these macros
abbrev pub after_command : Stage → Command → List Pair → Connection → Connection
after_command stage command pairs c =
    record {
      channel = without_edits (with_command stage command pairs c.phase c.channel);
      phase = phase_after c.phase stage;
      last_rank = rank_after c.phase c.last_rank stage;
    }

-- what is answered to it, by what was negotiated
abbrev pub outcome_if : Bool → Bool → List Command → CallOutcome
outcome_if true answered [] = LeftOut
outcome_if true answered (command ∷ others) = NoReply
outcome_if false true before = VerdictDue
outcome_if false false before = NoReply

abbrev pub outcome_at : Phase → Negotiated → Stage → CallOutcome
outcome_at phase negotiated stage =
    outcome_if (is_left_out (Some negotiated) phase stage) (is_answered negotiated stage) (abort_before phase stage)

-- some packets were queued, and nothing else was done
abbrev pub HasQueuedSome : Channel → Channel → Type 0
HasQueuedSome old new = new ≡ record old { expected = new.expected; pending = new.pending }

abbrev pub QueuesSome : Connection → Connection → Type 0
QueuesSome old new =
    new
    ≡ record old { channel = record old.channel { expected = new.channel.expected; pending = new.channel.pending } }

-- the command and its macros fit packets
pub record FitPackets (code : Option ℕ) (command : Command) (pairs : List Pair) : Type 0 where
  pub command_fits : Fits command
  pub macros_fit : All Fits (macro_step code pairs)

-- nothing is sent of it, or its packets fit
abbrev pub CanBeQueued : Bool → Option ℕ → Command → List Pair → Type 0
CanBeQueued left_out code command pairs = (left_out ≡ true) ⊎ FitPackets code command pairs

-- what a call of this stage leaves
abbrev pub CommandLeaves : Stage → Command → List Pair → Connection → Connection → Result CallOutcome CallFault → Type 0
CommandLeaves stage command pairs old new result =
    let asked = pairs_for old stage pairs in
    CallLeaves (fault_at stage old)
    (CanBeQueued (is_left_out old.channel.negotiated old.phase stage) (macro_command_of stage) command asked)
    (after_command stage command asked old) old new result

-- a header field, as it is sent
abbrev pub has_leading_space_in : Option Negotiated → Bool
has_leading_space_in None = false
has_leading_space_in (Some negotiated) = has_leading_space negotiated

abbrev pub header_command : Connection → Header → Command
header_command c header = commands.Header (sent_header (has_leading_space_in c.channel.negotiated) header)

-- ---- a command that the mail server doesn't know

-- before version 3 there was none
abbrev pub is_unknown_sent : Negotiated → Bool
is_unknown_sent negotiated =
    not (has negotiated (Some NOUNKNOWN) || nat_lt negotiated.options.version UNKNOWN_VERSION_MIN)

-- a message whose dialogue is over has none
abbrev pub is_over_for_unknown : Phase → Bool
is_over_for_unknown ClientOver = true
is_over_for_unknown MessageOver = true
is_over_for_unknown phase = false

abbrev pub is_unknown_left_out : Option Negotiated → Phase → Bool
is_unknown_left_out None phase = true
is_unknown_left_out (Some negotiated) phase =
    if is_over_for_unknown phase then true else not (is_unknown_sent negotiated)

-- all that is sent of it
abbrev pub unknown_packets : List ℕ → List Pair → Connection → List Command
unknown_packets text pairs c =
    packets_of (is_unknown_left_out c.channel.negotiated c.phase) (Some SMFIC_UNKNOWN) (commands.Unknown text) pairs

abbrev pub with_unknown : List ℕ → List Pair → Phase → Channel → Channel
with_unknown text pairs phase c =
    with_packets (is_unknown_left_out c.negotiated phase) (Some SMFIC_UNKNOWN) (commands.Unknown text) pairs c

-- it comes anywhere, and is of no stage
abbrev pub after_unknown : List ℕ → List Pair → Connection → Connection
after_unknown text pairs c = record c { channel = without_edits (with_unknown text pairs c.phase c.channel) }

abbrev pub UnknownLeaves : List ℕ → List Pair → Connection → Connection → Result CallOutcome CallFault → Type 0
UnknownLeaves text pairs old new result =
    CallLeaves (any_fault old)
    (CanBeQueued (is_unknown_left_out old.channel.negotiated old.phase) (Some SMFIC_UNKNOWN) (commands.Unknown text)
    pairs)
    (after_unknown text pairs old) old new result

-- ---- the end of a message and of the connection

-- a message was sent in part
abbrev pub is_due_abort : Phase → Bool
is_due_abort InMessage = true
is_due_abort Skipping = true
is_due_abort MessageOver = true
is_due_abort other = false

abbrev pub aborts : Phase → List Command
aborts phase = if is_due_abort phase then commands.Abort ∷ [] else []

abbrev pub phase_aborted : Phase → Phase
phase_aborted ClientOver = ClientOver
phase_aborted other = NoMessage

abbrev pub rank_without_message : ℕ → ℕ
rank_without_message last = min 2 last

abbrev pub rank_aborted : Phase → ℕ → ℕ
rank_aborted phase last = if is_due_abort phase then rank_without_message last else last

-- the message is given up
abbrev pub after_abort : Connection → Connection
after_abort c =
    record {
      channel = without_edits (queue_all (aborts c.phase) c.channel);
      phase = phase_aborted c.phase;
      last_rank = rank_aborted c.phase c.last_rank;
    }

-- the connection ends
abbrev pub after_quit : Connection → Connection
after_quit c =
    record {
      channel = without_edits (queue commands.Quit (queue_all (aborts c.phase) c.channel));
      phase = Closed;
      last_rank = c.last_rank;
    }

-- ---- what comes of the filter's replies

-- by a verdict that ends what it is on
abbrev pub phase_over : Stage → Phase
phase_over stages.Connect = ClientOver
phase_over stages.Helo = ClientOver
phase_over stages.Eob = NoMessage
phase_over other = MessageOver

abbrev pub phase_after_verdict : Stage → Verdict → Phase → Phase
phase_after_verdict stage verdict phase =
    if is_final_at stage verdict then phase_over stage else if is_skip verdict then Skipping else phase

abbrev pub rank_after_verdict : Stage → Verdict → ℕ → ℕ
rank_after_verdict stage verdict last = if is_end_by stage verdict then rank_without_message last else last

-- after a verdict on a command of this stage
abbrev pub after_verdict : Stage → Verdict → Connection → Connection
after_verdict stage verdict c =
    record {
      channel = c.channel;
      phase = phase_after_verdict stage verdict c.phase;
      last_rank = rank_after_verdict stage verdict c.last_rank;
    }

-- a message is under way, of which something may have been sent, and no verdict ended it
abbrev pub is_under_way : Phase → Bool
is_under_way InMessage = true
is_under_way Skipping = true
is_under_way other = false

-- as on a recipient: Accept and Discard end the message, if one is under way, and a refusal is of the command alone
abbrev pub after_unknown_verdict : Verdict → Connection → Connection
after_unknown_verdict verdict c =
    record c { phase = if is_final_at stages.Rcpt verdict && is_under_way c.phase then MessageOver else c.phase }

abbrev pub after_event : ExpectedReply → FilterEvent → Connection → Connection
after_event (expects.Verdict stage) (events.Verdict verdict) c = after_verdict stage verdict c
after_event expects.Unknown (events.Verdict verdict) c = after_unknown_verdict verdict c
after_event expected event c = c

abbrev pub closed_by : Option Loss → Connection → Connection
closed_by None c = c
closed_by (Some loss) c = record c { phase = Closed }

-- after this event and this loss, where the channel is this
abbrev pub after_fed : Fed → Channel → Connection → Connection
after_fed fed channel c =
    closed_by fed.loss (after_event c.channel.expected fed.event (record c { channel = channel }))

-- the filter is lost
abbrev pub lost : Connection → Connection
lost c = record c { channel = cleared c.channel; phase = Closed }

-- ---- what is to be done next

abbrev pub want_in : Phase → Want
want_in Closed = wants.Nothing
want_in phase = wants.Command

abbrev pub want_by : List ℕ → ExpectedReply → Phase → Want
want_by (byte ∷ bytes) expected phase = wants.Send
want_by [] expects.Nothing phase = want_in phase
want_by [] expected phase = wants.Receive

abbrev pub want : Connection → Want
want c = want_by c.channel.pending c.channel.expected c.phase
