-- Whatever is done with a connection, what is sent comes in the order in which a filter's end takes commands.
use Rattle.std.proofs.Common.{◌≡◌, ◌≤◌, ℕ, List, [], ◌∷◌, ◌++◌, Option, None, Some, refl, arith}
use Rattle.milter_wire.specs.declared.command.Command.{Command}
use Rattle.milter_wire.specs.declared.command.Command.TheVariants as commands
use Rattle.milter_wire.specs.declared.stage.Stage.{Stage}
use Rattle.milter_wire.specs.Stages.{stage_of}
use Rattle.milter_fields.specs.declared.pair.Pair.{Pair}
use Rattle.milter_mta_outcome.specs.declared.loss.Loss.{Loss}
use Rattle.milter_mta_connection.specs.declared.channel_state.ExpectedReply.{ExpectedReply}
use Rattle.milter_mta_connection.specs.declared.channel_state.ExpectedReply.TheVariants as expects
use Rattle.milter_mta_connection.specs.declared.filter_event.FilterEvent.{FilterEvent}
use Rattle.milter_mta_connection.specs.declared.filter_event.FilterEvent.TheVariants as events
use Rattle.milter_mta_connection.specs.declared.call_outcome.CallFault.{CallFault}
use Rattle.milter_mta_connection.specs.declared.phase.Phase.{Phase}
use Rattle.milter_mta_connection.specs.declared.phase.Phase.TheVariants.{NoMessage, InMessage, Skipping, MessageOver, ClientOver, Closed}
use Rattle.milter_mta_connection.specs.Received.{received}
use Rattle.milter_mta_connection.specs.Connection.{Connection, after_abort, after_command, after_event, after_quit, after_unknown, aborts, any_fault, closed_by, fault_at, packets_for, pairs_for, unknown_packets}
use Rattle.milter_mta_connection.specs.CommandOrder.{ComeInOrder, rank_with_all}
use Rattle.milter_mta_connection.specs.Calls.{AllComeInOrder, Call, after, called_at, queued_at, queued_by, queued_unless, rank_after_event, rank_by_call, unless}
use Rattle.milter_mta_connection.specs.Calls.Call.{StageCommand, UnknownCommand, Sent, Feed, Abort, Quit, Lost}
use Rattle.milter_mta_connection.proofs.Order.{aborted_in_order, answered_in_order, called_in_order, unknown_in_order}

-- what is queued comes in order, and the filter's rank stays within the last one that was called
record Keeps (rank : ℕ) (all : List Command) (now : ℕ) (c : Connection) : Type 0 where
  in_order : ComeInOrder rank all
  within : now ≤ c.last_rank

keeps_called : (fault : Option CallFault) (stage : Stage) (command : Command) (pairs : List Pair) (c : Connection) (rank : ℕ) → fault_at stage c ≡ fault → stage_of command ≡ Some stage → rank ≤ c.last_rank
    → Keeps rank (queued_unless fault (packets_for stage command pairs c)) (rank_with_all rank (queued_unless fault (packets_for stage command pairs c))) (unless fault (after_command stage command pairs c) c)
keeps_called None stage command pairs c rank e is less =
    let t = called_in_order stage command pairs c rank is e less in
    record { in_order = t.0; within = t.1 }
keeps_called (Some fault) stage command pairs c rank e is less = record { in_order = tt; within = less }

keeps_at : (stage : Option Stage) (command : Command) (pairs : List Pair) (c : Connection) (rank : ℕ) → stage_of command ≡ stage → rank ≤ c.last_rank
    → Keeps rank (queued_at stage command pairs c) (rank_with_all rank (queued_at stage command pairs c)) (called_at stage command pairs c)
keeps_at None command pairs c rank is less = record { in_order = tt; within = less }
keeps_at (Some stage) command pairs c rank is less = keeps_called (fault_at stage c) stage command (pairs_for c stage pairs) c rank refl is less

keeps_unknown : (fault : Option CallFault) (text : List ℕ) (pairs : List Pair) (c : Connection) (rank : ℕ) → rank ≤ c.last_rank
    → Keeps rank (queued_unless fault (unknown_packets text pairs c)) (rank_with_all rank (queued_unless fault (unknown_packets text pairs c))) (unless fault (after_unknown text pairs c) c)
keeps_unknown None text pairs c rank less = let t = unknown_in_order text pairs c rank less in record { in_order = t.0; within = t.1 }
keeps_unknown (Some fault) text pairs c rank less = record { in_order = tt; within = less }

keeps_aborted : (fault : Option CallFault) (c : Connection) (rank : ℕ) → rank ≤ c.last_rank
    → Keeps rank (queued_unless fault (aborts c.phase)) (rank_with_all rank (queued_unless fault (aborts c.phase))) (unless fault (after_abort c) c)
keeps_aborted None c rank less = let t = aborted_in_order c rank less in record { in_order = t.0; within = t.1 }
keeps_aborted (Some fault) c rank less = record { in_order = tt; within = less }

record QuitsInOrder (rank : ℕ) (all : List Command) : Type 0 where
  in_order : ComeInOrder rank all
  less : rank_with_all rank all ≤ rank

quit_taken : (phase : Phase) (rank : ℕ) → QuitsInOrder rank (aborts phase ++ commands.Quit ∷ [])
quit_taken NoMessage rank = record { in_order = (refl, tt); less = omega arith }
quit_taken InMessage rank = record { in_order = (refl, (refl, tt)); less = omega arith }
quit_taken Skipping rank = record { in_order = (refl, (refl, tt)); less = omega arith }
quit_taken MessageOver rank = record { in_order = (refl, (refl, tt)); less = omega arith }
quit_taken ClientOver rank = record { in_order = (refl, tt); less = omega arith }
quit_taken Closed rank = record { in_order = (refl, tt); less = omega arith }

keeps_quit : (fault : Option CallFault) (c : Connection) (rank : ℕ) → rank ≤ c.last_rank
    → Keeps rank (queued_unless fault (aborts c.phase ++ commands.Quit ∷ [])) (rank_with_all rank (queued_unless fault (aborts c.phase ++ commands.Quit ∷ []))) (unless fault (after_quit c) c)
keeps_quit None c rank less = let t = quit_taken c.phase rank in record { in_order = t.in_order; within = omega (arith, t.less, less) }
keeps_quit (Some fault) c rank less = record { in_order = tt; within = less }

closed_rank : (loss : Option Loss) (c : Connection) (now : ℕ) → now ≤ c.last_rank → now ≤ (closed_by loss c).last_rank
closed_rank None c now less = less
closed_rank (Some loss) c now less = less

event_rank : (expected : ExpectedReply) (h : FilterEvent) (c : Connection) (rank : ℕ) → rank ≤ c.last_rank → rank_after_event expected h rank ≤ (after_event expected h c).last_rank
event_rank (expects.Verdict stage) (events.Verdict verdict) c rank less = answered_in_order stage verdict c rank less
event_rank (expects.Verdict stage) events.Nothing c rank less = less
event_rank (expects.Verdict stage) events.InProgress c rank less = less
event_rank (expects.Verdict stage) events.Negotiated c rank less = less
event_rank expects.Nothing h c rank less = less
event_rank expects.Options h c rank less = less
event_rank expects.Unknown (events.Verdict verdict) c rank less = less
event_rank expects.Unknown events.Nothing c rank less = less
event_rank expects.Unknown events.InProgress c rank less = less
event_rank expects.Unknown events.Negotiated c rank less = less

keeps : (call : Call) (c : Connection) (rank : ℕ) → rank ≤ c.last_rank → Keeps rank (queued_by call c) (rank_by_call call c rank) (after call c)
keeps (StageCommand command pairs) c rank less = keeps_at (stage_of command) command pairs c rank refl less
keeps (UnknownCommand text pairs) c rank less = keeps_unknown (any_fault c) text pairs c rank less
keeps (Sent count) c rank less = record { in_order = tt; within = less }
keeps (Feed bytes) c rank less =
    let a = received c.channel bytes in
    let k : Connection = record c { channel = a.channel } in
    record { in_order = tt; within = closed_rank a.loss (after_event c.channel.expected a.event k) _ (event_rank c.channel.expected a.event k rank less) }
keeps Abort c rank less = keeps_aborted (any_fault c) c rank less
keeps Quit c rank less = keeps_quit (any_fault c) c rank less
keeps Lost c rank less = record { in_order = tt; within = less }

pub all_in_order : (calls : List Call) (c : Connection) (rank : ℕ) → rank ≤ c.last_rank → AllComeInOrder c rank calls
all_in_order [] c rank less = tt
all_in_order (call ∷ calls) c rank less =
    let k = keeps call c rank less in
    (k.in_order, all_in_order calls (after call c) (rank_by_call call c rank) k.within)
