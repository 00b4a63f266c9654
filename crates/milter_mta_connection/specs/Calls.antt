-- Whatever is done with a connection to a filter, and whatever the filter sends: what is sent to it then, in order.
use Rattle.std.specs.Prelude.{ℕ, List, [], ◌∷◌, ◌++◌, Option, None, Some}
use Rattle.milter_wire.specs.declared.command.Command.{Command}
use Rattle.milter_wire.specs.declared.command.Command.TheVariants as commands
use Rattle.milter_wire.specs.declared.stage.Stage.{Stage}
use Rattle.milter_wire.specs.Stages.{stage_of}
use Rattle.milter_fields.specs.declared.pair.Pair.{Pair}
use Rattle.milter_protocol.specs.Commands.{is_end_by}
use Rattle.milter_protocol.specs.Transcripts.{rank_from}
use Rattle.milter_mta_connection.specs.declared.channel_state.ExpectedReply.{ExpectedReply}
use Rattle.milter_mta_connection.specs.declared.channel_state.ExpectedReply.TheVariants as expects
use Rattle.milter_mta_connection.specs.declared.filter_event.FilterEvent.{FilterEvent}
use Rattle.milter_mta_connection.specs.declared.filter_event.FilterEvent.TheVariants as events
use Rattle.milter_mta_connection.specs.Channel.{sent}
use Rattle.milter_mta_connection.specs.Received.{After, received}
use Rattle.milter_mta_connection.specs.declared.call_outcome.CallFault.{CallFault}
use Rattle.milter_mta_connection.specs.CommandOrder.{ComeInOrder, rank_with_all}
use Rattle.milter_mta_connection.specs.Connection.{Connection, after_abort, after_command, after_event, after_quit, after_unknown, aborts, any_fault, closed_by, fault_at, lost, packets_for, pairs_for, unknown_packets}

pub data Call : Type 0 where
  -- for a command of a stage, with its macros
  StageCommand : Command → List Pair → Call
  -- for a command that the mail server doesn't know
  UnknownCommand : List ℕ → List Pair → Call
  Abort : Call
  Quit : Call
  -- so many of the pending bytes were sent
  Sent : ℕ → Call
  -- these bytes came
  Feed : List ℕ → Call
  -- the filter is lost
  Lost : Call

-- ---- what a call leaves: where it is refused nothing changes

abbrev pub unless : Option CallFault → Connection → Connection → Connection
unless None after c = after
unless (Some fault) after c = c

abbrev pub called_at : Option Stage → Command → List Pair → Connection → Connection
called_at None command pairs c = c
called_at (Some stage) command pairs c =
    unless (fault_at stage c) (after_command stage command (pairs_for c stage pairs) c) c

abbrev pub fed_by : After → Connection → Connection
fed_by a c = closed_by a.loss (after_event c.channel.expected a.event (record c { channel = a.channel }))

abbrev pub after : Call → Connection → Connection
after (StageCommand command pairs) c = called_at (stage_of command) command pairs c
after (UnknownCommand text pairs) c = unless (any_fault c) (after_unknown text pairs c) c
after Abort c = unless (any_fault c) (after_abort c) c
after Quit c = unless (any_fault c) (after_quit c) c
after (Sent count) c = record c { channel = sent count c.channel }
after (Feed bytes) c = fed_by (received c.channel bytes) c
after Lost c = lost c

-- ---- what it queues

abbrev pub queued_unless : Option CallFault → List Command → List Command
queued_unless None all = all
queued_unless (Some fault) all = []

abbrev pub queued_at : Option Stage → Command → List Pair → Connection → List Command
queued_at None command pairs c = []
queued_at (Some stage) command pairs c =
    queued_unless (fault_at stage c) (packets_for stage command (pairs_for c stage pairs) c)

abbrev pub queued_by : Call → Connection → List Command
queued_by (StageCommand command pairs) c = queued_at (stage_of command) command pairs c
queued_by (UnknownCommand text pairs) c = queued_unless (any_fault c) (unknown_packets text pairs c)
queued_by Abort c = queued_unless (any_fault c) (aborts c.phase)
queued_by Quit c = queued_unless (any_fault c) (aborts c.phase ++ commands.Quit ∷ [])
queued_by other c = []

-- ---- the rank that the filter's end keeps

abbrev pub rank_after_event : ExpectedReply → FilterEvent → ℕ → ℕ
rank_after_event (expects.Verdict stage) (events.Verdict verdict) rank = rank_from (is_end_by stage verdict) rank
rank_after_event expected event rank = rank

abbrev pub rank_by_call : Call → Connection → ℕ → ℕ
rank_by_call (Feed bytes) c rank = rank_after_event c.channel.expected (received c.channel bytes).event rank
rank_by_call call c rank = rank_with_all rank (queued_by call c)

-- all that these calls queue comes in the order in which a filter's end takes commands
abbrev pub AllComeInOrder : Connection → ℕ → List Call → Type 0
AllComeInOrder c rank [] = Unit {0}
AllComeInOrder c rank (call ∷ calls) =
    ComeInOrder rank (queued_by call c) × AllComeInOrder (after call c) (rank_by_call call c rank) calls
