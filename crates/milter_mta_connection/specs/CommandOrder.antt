-- The order in which a filter's end takes commands.
use Rattle.std.specs.Prelude.{◌≡◌, ℕ, true, List, [], ◌∷◌}
use Rattle.milter_wire.specs.declared.command.Command.{Command}
use Rattle.milter_wire.specs.Stages.{stage_of}
use Rattle.milter_protocol.specs.Commands.{is_abort}
use Rattle.milter_protocol.specs.Faults.{is_in_order}
use Rattle.milter_protocol.specs.OrderStates.{rank_by}
use Rattle.milter_protocol.specs.Transcripts.{rank_from}

-- the rank of the last stage that a filter's end keeps, after a command without its answer
abbrev pub rank_with : ℕ → Command → ℕ
rank_with last command = rank_from (is_abort command) (rank_by last (stage_of command))

abbrev pub rank_with_all : ℕ → List Command → ℕ
rank_with_all last [] = last
rank_with_all last (command ∷ others) = rank_with_all (rank_with last command) others

-- each of the commands comes in the order in which a filter's end takes them, where the last stage had this rank
abbrev pub ComeInOrder : ℕ → List Command → Type 0
ComeInOrder last [] = Unit {0}
ComeInOrder last (command ∷ others) =
    (is_in_order last (stage_of command) ≡ true) × ComeInOrder (rank_with last command) others
