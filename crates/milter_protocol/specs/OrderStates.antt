-- What a filter's end keeps of a connection: what its transcript comes to, and nothing more of it.
use Rattle.std.specs.Prelude.{ℕ, ◌+◌, min, Bool, true, false, List, [], length, Option, None, Some, Ok, Err, if◌then◌else◌}
use Rattle.std.specs.Option.{option_or}
use Rattle.milter_wire.specs.declared.negotiation.Negotiated.{Negotiated}
use Rattle.milter_wire.specs.declared.command.Command.{Command}
use Rattle.milter_wire.specs.declared.reply.Reply.{Reply}
use Rattle.milter_wire.specs.declared.stage.Stage.{Stage}
use Rattle.milter_wire.specs.Negotiation.{has_leading_space, is_asked}
use Rattle.milter_wire.specs.Command.{bytes_of, encoding}
use Rattle.milter_wire.specs.Stages.{stage_of}
use Rattle.milter_wire.specs.declared.command.Command.TheVariants.{Abort}
use Rattle.milter_protocol.specs.declared.answer.Answer.{Answer}
use Rattle.milter_protocol.specs.declared.stage_order.CommandOrder.{CommandOrder}
use Rattle.milter_protocol.specs.declared.stage_order.CommandOrder.TheVariants.{Strict}
use Rattle.milter_protocol.specs.Aborts.{is_undone, needs_abort}
use Rattle.milter_protocol.specs.Behavior.{Behavior, answer_to}
use Rattle.milter_protocol.specs.Exchanges.{Exchange}
use Rattle.milter_protocol.specs.Seen.{Seen, seen, seen_with}
use Rattle.milter_protocol.specs.StageOrder.{rank_of}
use Rattle.milter_protocol.specs.declared.filter_fault.FilterFault.{FilterFault}
use Rattle.milter_protocol.specs.declared.filter_fault.FilterFault.TheVariants.{Wire}
use Rattle.milter_protocol.specs.declared.filter_fault.FilterState.{FilterState}
use Rattle.milter_protocol.specs.declared.filter_fault.FilterState.TheVariants.{Serving, Failed}
use Rattle.milter_protocol.specs.Commands.{is_message_end, is_of_connection, is_quit_new, is_shown}
use Rattle.milter_protocol.specs.FilterEnds.{FilterEnd, Received, state_after}
use Rattle.milter_protocol.specs.Faults.{fault_of}
use Rattle.milter_protocol.specs.Transcripts.{negotiated_by, negotiated_in, has_leading_space_in, last_rank, of_connection, rank_from, shown}
use Rattle.milter_protocol.specs.Replies.{replies_to}
use Rattle.milter_protocol.specs.Steps.{Step, silent, steps}

-- what is shown, and the bytes of the packets that it came in
pub record Part : Type 0 where
  pub seen : Seen
  pub bytes : ℕ

-- the order in which commands are taken, what was negotiated, the rank of the last stage, what is shown at this place,
-- and the part of it that stays for the whole connection
pub record OrderState : Type 0 where
  pub order : CommandOrder
  pub negotiated : Option Negotiated
  pub last_rank : ℕ
  pub shown : Part
  pub connection : Part
  pub state : FilterState

-- ---- of a connection

abbrev pub part_of : Bool → List Command → Part
part_of leading_space commands = record { seen = seen leading_space commands; bytes = bytes_of commands }

-- nothing is kept but the state
abbrev pub nothing_kept : FilterState → OrderState
nothing_kept state =
    record {
      order = Strict;
      negotiated = None;
      last_rank = 0;
      shown = part_of false [];
      connection = part_of false [];
      state = state;
    }

abbrev pub fresh : OrderState
fresh = nothing_kept Serving

-- nothing has come, and commands are taken in this order
abbrev pub fresh_in : CommandOrder → OrderState
fresh_in order = record fresh { order = order }

abbrev pub kept_of : Behavior → List Exchange → FilterState → OrderState
kept_of b transcript state =
    let leading_space = has_leading_space_in (negotiated_in b transcript) in
    record {
      order = Strict;
      negotiated = negotiated_in b transcript;
      last_rank = last_rank transcript;
      shown = part_of leading_space (shown transcript);
      connection = part_of leading_space (of_connection transcript);
      state = state;
    }

-- after a fault nothing is kept but that
abbrev pub order_state_at : Behavior → List Exchange → FilterState → OrderState
order_state_at b transcript (Failed fault) = nothing_kept (Failed fault)
order_state_at b transcript state = kept_of b transcript state

abbrev pub order_state_of : Behavior → FilterEnd → OrderState
order_state_of b c = order_state_at b c.transcript c.state

-- ---- one command

abbrev pub with_command : Part → Command → Part
with_command part command =
    record { seen = seen_with part.seen command; bytes = length (encoding command) + part.bytes }

abbrev pub with_if : Bool → Part → Command → Part
with_if true part command = with_command part command
with_if false part command = part

abbrev pub emptied : Part → Part
emptied part = part_of part.seen.leading_space []

-- the part of the connection: nothing of it stays where another one follows
abbrev pub connection_after : Bool → Part → Command → Part
connection_after true part command = emptied part
connection_after false part command = with_if (is_of_connection command) part command

-- what is shown: after the end of a message, the part of the connection
abbrev pub shown_after : Bool → Part → Part → Command → Part
shown_after true connection part command = connection
shown_after false connection part command = with_if (is_shown command) part command

-- the rank of the command's own stage, or of the last one where it has none
abbrev pub rank_by : ℕ → Option Stage → ℕ
rank_by last None = last
rank_by last (Some stage) = rank_of stage

-- whether leading spaces are sent is negotiated with the options
abbrev pub with_negotiated : Option Negotiated → Part → Part
with_negotiated None part = part
with_negotiated (Some negotiated) part =
    record { seen = record part.seen { leading_space = has_leading_space negotiated }; bytes = part.bytes }

-- with a command that is shown
abbrev pub with_shown : OrderState → Command → OrderState
with_shown s command =
    record s {
      last_rank = rank_by s.last_rank (stage_of command);
      shown = with_if (is_shown command) s.shown command;
      connection = with_if (is_of_connection command) s.connection command;
    }

-- after the end of a message
abbrev pub after_message : OrderState → OrderState
after_message s = record s { last_rank = min 2 s.last_rank; shown = s.connection }

-- after the end of a client's connection
abbrev pub after_client : OrderState → OrderState
after_client s = record s { last_rank = 0; shown = emptied s.connection; connection = emptied s.connection }

-- after the options
abbrev pub after_options : OrderState → Negotiated → OrderState
after_options s negotiated =
    record s {
      negotiated = Some negotiated;
      shown = with_negotiated (Some negotiated) s.shown;
      connection = with_negotiated (Some negotiated) s.connection;
    }

-- the answer to a command, which is shown with all before it
abbrev pub order_state_answer : Behavior → Option Negotiated → Part → Command → Option Answer
order_state_answer b None part command = None
order_state_answer b (Some negotiated) part command =
    answer_to b negotiated (stage_of command) (is_asked negotiated command) (seen_with part.seen command)

-- with a command at no fault that isn't undone, and its answer
abbrev pub order_state_with : Behavior → OrderState → Command → Option Answer → OrderState
order_state_with b s command answer =
    let connection = connection_after (is_quit_new command) s.connection command in
    record {
      order = s.order;
      negotiated = option_or (negotiated_by b command) s.negotiated;
      last_rank =
          if is_quit_new command then 0
          else rank_from (is_message_end command answer) (rank_by s.last_rank (stage_of command));
      shown =
          with_negotiated (negotiated_by b command)
          (shown_after (is_message_end command answer) connection s.shown command);
      connection = with_negotiated (negotiated_by b command) connection;
      state = state_after command;
    }

abbrev pub order_state_fault : OrderState → Received → Option FilterFault
order_state_fault s (Err fault) = Some (Wire fault)
order_state_fault s (Ok command) =
    fault_of s.negotiated s.last_rank (length (encoding command) + s.shown.bytes) command

abbrev pub order_step_by : Behavior → OrderState → Received → Option FilterFault → Step OrderState
order_step_by b s received (Some fault) = silent (nothing_kept (Failed fault))
order_step_by b s (Err fault) None = silent (nothing_kept (Failed (Wire fault)))
order_step_by b s (Ok command) None =
    let answer = order_state_answer b s.negotiated s.shown command in
    record {
      after = if is_undone s.order s.last_rank command answer then s else order_state_with b s command answer;
      replies = replies_to b s.negotiated command answer;
    }

abbrev pub order_step_in : Behavior → OrderState → Received → FilterState → Step OrderState
order_step_in b s received Serving = order_step_by b s received (order_state_fault s received)
order_step_in b s received ended = silent s

-- ready for the command: after an abort, where one is due
abbrev pub order_state_before : Behavior → OrderState → Received → OrderState
order_state_before b s received =
    if needs_abort s.order s.negotiated s.last_rank received then (order_step_in b s (Ok Abort) s.state).after else s

abbrev pub order_step : Behavior → OrderState → Received → Step OrderState
order_step b s received = let ready = order_state_before b s received in order_step_in b ready received ready.state

abbrev pub order_state_next : Behavior → OrderState → Received → OrderState
order_state_next b s received = (order_step b s received).after

abbrev pub order_state_replies_at : Behavior → OrderState → Received → List Reply
order_state_replies_at b s received = (order_step b s received).replies

-- ---- all commands

abbrev pub order_state_after : Behavior → OrderState → List Received → OrderState
order_state_after b s received = (steps (order_step b) s received).after

abbrev pub order_state_replies : Behavior → OrderState → List Received → List Reply
order_state_replies b s received = (steps (order_step b) s received).replies
