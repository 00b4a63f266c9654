-- Recorded conversations.
use Rattle.std.specs.Prelude.{ℕ, List, All}
use Rattle.std.specs.List.{flat_map}
use Rattle.milter_wire.specs.Command.{Fits, encoding}
use Rattle.milter_replay.specs.declared.conversation.Exchange.{Exchange}

-- each command has an encoding
abbrev pub AllFit : List Exchange → Type 0
AllFit exchanges = All (λ exchange. Fits exchange.recorded.command) exchanges

-- the packets of the commands, one after the other
abbrev pub commands_bytes : List Exchange → List ℕ
commands_bytes exchanges = flat_map (λ exchange. encoding exchange.recorded.command) exchanges
