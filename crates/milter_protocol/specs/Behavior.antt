-- What a filter does, whatever its code: what it wants of a connection, and its answer at each stage to what it is
-- shown.
use Rattle.std.specs.Prelude.{Bool, true, false, List, ◌∷◌, Option, None, Some}
use Rattle.milter_wire.specs.declared.options.Options.{Options}
use Rattle.milter_wire.specs.declared.negotiation.Negotiated.{Negotiated}
use Rattle.milter_wire.specs.declared.command.Command.{Command}
use Rattle.milter_wire.specs.declared.stage.Stage.{Stage}
use Rattle.milter_wire.specs.declared.symbol_lists.SymList.{SymList}
use Rattle.milter_wire.specs.Negotiation.{has_leading_space, is_asked}
use Rattle.milter_wire.specs.Stages.{stage_of}
use Rattle.milter_protocol.specs.declared.answer.Answer.{Answer}
use Rattle.milter_protocol.specs.Exchanges.{Exchange}
use Rattle.milter_protocol.specs.Permitted.{permitted}
use Rattle.milter_protocol.specs.Seen.{Seen, seen}

pub record Behavior : Type 0 where
  pub wants : Options
  pub lists : List SymList
  pub decide : Stage → Seen → Answer

-- the permitted answer to a command of this stage, if it is asked about, where this is shown
abbrev pub answer_to : Behavior → Negotiated → Option Stage → Bool → Seen → Option Answer
answer_to b negotiated (Some stage) true shown = Some (permitted negotiated (b.decide stage shown))
answer_to b negotiated (Some stage) false shown = None
answer_to b negotiated None is_asked shown = None

-- a command and its answer, after the commands that were shown before it, the latest first
abbrev pub exchange_of : Behavior → Negotiated → List Command → Command → Exchange
exchange_of b negotiated before command =
    record {
      command = command;
      answer = answer_to b negotiated (stage_of command) (is_asked negotiated command)
          (seen (has_leading_space negotiated) (command ∷ before));
    }
