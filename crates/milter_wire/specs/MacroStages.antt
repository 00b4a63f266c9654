-- The stages that have macros: their names in text files, and their numbers in symbol lists.
use Rattle.std.specs.Prelude.{ℕ, List, [], ◌∷◌, codes, find, Option}
use Rattle.std.specs.Str.{bytes_eq}
use Rattle.milter_wire.specs.declared.macro_stage.MacroStage.{MacroStage}
use Rattle.milter_wire.specs.declared.macro_stage.MacroStage.TheVariants.{Connect, Helo, Mail, Rcpt, DataCmd, Eom}
use Rattle.milter_wire.specs.declared.macro_stage.MacroStage.TheVariants.{Eoh}

-- all of them, in the order of a session
abbrev pub macro_stages : List MacroStage
macro_stages = Connect ∷ Helo ∷ Mail ∷ Rcpt ∷ DataCmd ∷ Eoh ∷ Eom ∷ []

-- the word of each
abbrev pub macro_stage_name : MacroStage → List ℕ
macro_stage_name Connect = codes "connect"
macro_stage_name Helo = codes "helo"
macro_stage_name Mail = codes "mail"
macro_stage_name Rcpt = codes "rcpt"
macro_stage_name DataCmd = codes "data"
macro_stage_name Eom = codes "eom"
macro_stage_name Eoh = codes "eoh"

-- the stage with this name
abbrev pub macro_stage_named : List ℕ → Option MacroStage
macro_stage_named name = find (λ stage. bytes_eq name (macro_stage_name stage)) macro_stages

-- the number of each in a symbol list
abbrev pub macro_stage_number : MacroStage → ℕ
macro_stage_number Connect = 0
macro_stage_number Helo = 1
macro_stage_number Mail = 2
macro_stage_number Rcpt = 3
macro_stage_number DataCmd = 4
macro_stage_number Eom = 5
macro_stage_number Eoh = 6
