-- The macros of a command line, as they are written.
use Rattle.std.specs.Prelude.{◌≡◌, ℕ, ◌<◌, List, ◌∷◌, ◌++◌, Some, length}
use Rattle.milter_wire.specs.MacroStages.{macro_stage_named}
use Rattle.milter_command_line.specs.declared.given_macro.GivenMacro.{GivenMacro}

-- the word of a stage, `:`, a name, `=` and a value
abbrev pub IsMacro : List ℕ → GivenMacro → Type 0
IsMacro text given =
    (stage : List ℕ) × (macro_stage_named stage ≡ Some given.stage)
    × (text ≡ stage ++ 58 ∷ (given.name.now ++ 61 ∷ given.value.now)) × (0 < length given.name.now)
