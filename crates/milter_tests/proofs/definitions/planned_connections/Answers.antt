use Rattle.std.proofs.Common.{◌∷◌, ◌++◌, [], List, ℕ, ap}
use Rattle.std.specs.List.{flat_map}
use Rattle.milter_wire.specs.declared.command.Command.TheVariants as commands
use Rattle.milter_tests.specs.WorkedSession.{commands_after, commands_before}
use Rattle.milter_tests.proofs.Chunks.{two-chunks}
use Rattle.milter_tests.proofs.definitions.planned_connections.Goals as goal

pub returns-clause-plan : goal.returns-clause-plan
returns-clause-plan c = λ body is.
    ap (λ (chunks : List (List ℕ)). commands_before
    ++ flat_map (λ (chunk : List ℕ). commands.Body chunk ∷ []) chunks
    ++ commands_after) (two-chunks body is)
