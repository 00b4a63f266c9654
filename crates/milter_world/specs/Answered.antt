-- What a filter's end replies to the packets of some lines.
use Rattle.std.specs.Prelude.{◌≡◌, ◌<◌, ℕ, List, [], ◌∷◌, length, take, None, Ok}
use Rattle.std.specs.List.{flat_map}
use Rattle.milter_wire.specs.declared.command.Command.{Command}
use Rattle.milter_wire.specs.Command as sent_to
use Rattle.milter_wire.specs.Reply as replied
use Rattle.milter_protocol.specs.Aborts.{IsTakenAlike}
use Rattle.milter_protocol.specs.declared.stage_order.CommandOrder.{CommandOrder}
use Rattle.milter_protocol.specs.Behavior.{Behavior}
use Rattle.milter_protocol.specs.FilterEnds.{FilterEnd, fault_at, next, replies_at}
use Rattle.milter_protocol.specs.declared.filter_fault.FilterState.TheVariants.{Serving}
use Rattle.milter_protocol.specs.OrderStates.{fresh_in, order_state_after, order_state_replies}
use Rattle.milter_mta.specs.Lines.{Line}
use Rattle.milter_filter_stream.specs.Streams.{received_in}
use Rattle.milter_world.specs.ByteCounts.{owed, to_filter, to_mta}

-- the packet of the line is that of a command at no fault, which is taken alike in either order, and the bytes after it
-- are those of the replies to it
pub record IsReplied (b : Behavior) (c : FilterEnd) (line : Line) : Type 0 where
  pub command : Command
  pub fits : sent_to.Fits command
  pub out_is : line.out ≡ sent_to.encoding command
  pub serving : c.state ≡ Serving
  pub no_fault : fault_at b c.transcript (Ok command) ≡ None
  pub alike : IsTakenAlike b c (Ok command)
  pub back_is : line.back ≡ flat_map replied.encoding (replies_at b c (Ok command))

-- line by line, and it has come to this
abbrev pub Replies : Behavior → FilterEnd → List Line → FilterEnd → Type 0
Replies b c [] new = c ≡ new
Replies b c (line ∷ lines) new = (x : IsReplied b c line) × Replies b (next b c (Ok x.command)) lines new

-- what a filter that takes commands in this order replies to any bytes that begin these lines is what the lines have
pub record AnswersLines (order : CommandOrder) (b : Behavior) (lines : List Line) : Type 0 where
  pub replied : (taken : ℕ) →
      flat_map replied.encoding (order_state_replies b (fresh_in order) (received_in (take taken (to_filter lines))))
      ≡ take (owed lines taken) (to_mta lines)
  pub serves : (taken : ℕ) → taken < length (to_filter lines) →
      (order_state_after b (fresh_in order) (received_in (take taken (to_filter lines)))).state ≡ Serving
