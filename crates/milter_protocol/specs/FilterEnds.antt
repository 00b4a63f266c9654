-- A filter's end of a connection, command by command: what is known of it is its transcript.
use Rattle.std.specs.Prelude.{List, [], ◌∷◌, Option, None, Some, Result, Ok, Err, if◌then◌else◌}
use Rattle.milter_fields.specs.declared.fault.WireFault.{WireFault}
use Rattle.milter_wire.specs.declared.negotiation.Negotiated.{Negotiated}
use Rattle.milter_wire.specs.declared.command.Command.{Command}
use Rattle.milter_wire.specs.declared.reply.Reply.{Reply}
use Rattle.milter_wire.specs.Command.{bytes_of}
use Rattle.milter_protocol.specs.declared.answer.Answer.{Answer}
use Rattle.milter_protocol.specs.Behavior.{Behavior, exchange_of}
use Rattle.milter_protocol.specs.Exchanges.{Exchange}
use Rattle.milter_protocol.specs.declared.filter_fault.FilterFault.{FilterFault}
use Rattle.milter_protocol.specs.declared.filter_fault.FilterFault.TheVariants.{Wire}
use Rattle.milter_protocol.specs.declared.filter_fault.FilterState.{FilterState}
use Rattle.milter_protocol.specs.declared.filter_fault.FilterState.TheVariants.{Serving, Quit, Failed}
use Rattle.milter_protocol.specs.Commands.{is_quit}
use Rattle.milter_protocol.specs.Faults.{fault_of}
use Rattle.milter_protocol.specs.Transcripts.{negotiated_in, last_rank, shown}
use Rattle.milter_protocol.specs.Replies.{replies_to}
use Rattle.milter_protocol.specs.Steps.{Step, silent, steps}

-- what a packet has: a command, or the fault for which it can't be read
abbrev pub Received : Type 0
Received = Result Command WireFault

-- the exchanges, the latest first, and whether it goes on
pub record FilterEnd : Type 0 where
  pub transcript : List Exchange
  pub state : FilterState

abbrev pub start : FilterEnd
start = record { transcript = []; state = Serving }

-- ---- one command

abbrev pub fault_at : Behavior → List Exchange → Received → Option FilterFault
fault_at b transcript (Err fault) = Some (Wire fault)
fault_at b transcript (Ok command) =
    fault_of (negotiated_in b transcript) (last_rank transcript) (bytes_of (command ∷ shown transcript)) command

-- the answer to a command after those that were shown; before anything was negotiated, nothing is asked
abbrev pub answer_by : Behavior → Option Negotiated → List Command → Command → Option Answer
answer_by b None before command = None
answer_by b (Some negotiated) before command = (exchange_of b negotiated before command).answer

abbrev pub exchange_at : Behavior → List Exchange → Command → Exchange
exchange_at b transcript command =
    record { command = command; answer = answer_by b (negotiated_in b transcript) (shown transcript) command }

-- it goes on until the mail server quits
abbrev pub state_after : Command → FilterState
state_after command = if is_quit command then Quit else Serving

-- what a command adds, where it is at no fault
abbrev pub step_by : Behavior → List Exchange → Received → Option FilterFault → Step FilterEnd
step_by b transcript received (Some fault) = silent (record { transcript = transcript; state = Failed fault })
step_by b transcript (Err fault) None = silent (record { transcript = transcript; state = Failed (Wire fault) })
step_by b transcript (Ok command) None =
    let exchange = exchange_at b transcript command in
    record {
      after = record { transcript = exchange ∷ transcript; state = state_after command };
      replies = replies_to b (negotiated_in b transcript) command exchange.answer;
    }

-- after it has quit or failed, nothing changes and nothing is replied
abbrev pub step_in : Behavior → List Exchange → Received → FilterState → Step FilterEnd
step_in b transcript received Serving = step_by b transcript received (fault_at b transcript received)
step_in b transcript received ended = silent (record { transcript = transcript; state = ended })

abbrev pub step : Behavior → FilterEnd → Received → Step FilterEnd
step b c received = step_in b c.transcript received c.state

abbrev pub next : Behavior → FilterEnd → Received → FilterEnd
next b c received = (step b c received).after

abbrev pub replies_at : Behavior → FilterEnd → Received → List Reply
replies_at b c received = (step b c received).replies

-- ---- all commands

abbrev pub after : Behavior → FilterEnd → List Received → FilterEnd
after b c received = (steps (step b) c received).after

-- the replies, place by place
abbrev pub replies : Behavior → FilterEnd → List Received → List Reply
replies b c received = (steps (step b) c received).replies
