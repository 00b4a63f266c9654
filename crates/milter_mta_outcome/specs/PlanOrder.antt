-- The order in which a filter wants the commands of a plan.
use Rattle.std.specs.Prelude.{◌≡◌, ◌≤◌, ℕ, true, List, [], ◌∷◌}
use Rattle.milter_wire.specs.declared.command.Command.{Command}
use Rattle.milter_wire.specs.Stages.{stage_of}
use Rattle.milter_protocol.specs.Commands.{is_shown}
use Rattle.milter_protocol.specs.Faults.{is_in_order}
use Rattle.milter_protocol.specs.OrderStates.{rank_by}

-- commands that are shown to a filter, each of which may come where the last stage had this rank
abbrev pub AreInTurn : ℕ → List Command → Type 0
AreInTurn last [] = Unit {0}
AreInTurn last (command ∷ left) =
    (is_shown command ≡ true)
    × (is_in_order last (stage_of command) ≡ true)
    × AreInTurn (rank_by last (stage_of command)) left

-- the rank of the last stage after them
abbrev pub rank_after : ℕ → List Command → ℕ
rank_after last [] = last
rank_after last (command ∷ left) = rank_after (rank_by last (stage_of command)) left

-- commands in turn after a stage of the first rank, and none of a stage beyond that of the second
pub record IsWithinRanks (last top : ℕ) (commands : List Command) : Type 0 where
  pub in_turn : AreInTurn last commands
  pub up_to : rank_after last commands ≤ top
