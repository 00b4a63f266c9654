-- A value for each stage that has macros.
use Rattle.std.specs.Prelude.{Bool, if◌then◌else◌}
use Rattle.std.specs.Borrow.{Fml, Lends, MutBor, RattleType}
use Rattle.std.specs.Str.{bytes_eq}
use Rattle.milter_wire.specs.declared.macro_stage.MacroStage.{MacroStage}
use Rattle.milter_wire.specs.declared.macro_stage.MacroStage.TheVariants.{Connect, Helo, Mail, Rcpt, DataCmd, Eom}
use Rattle.milter_wire.specs.declared.macro_stage.MacroStage.TheVariants.{Eoh}
use Rattle.milter_wire.specs.MacroStages.{macro_stage_name}
use Rattle.milter_mail.specs.declared.by_macro_stage.ByMacroStage.{ByMacroStage}
use Rattle.milter_mail.specs.contracts.by_macro_stage.ByMacroStage.{the_row}

-- the value of a stage
abbrev pub at_stage : {X : Type 0} → ByMacroStage X → MacroStage → X
at_stage values Connect = values.connect
at_stage values Helo = values.helo
at_stage values Mail = values.mail
at_stage values Rcpt = values.rcpt
at_stage values DataCmd = values.data_cmd
at_stage values Eom = values.eom
at_stage values Eoh = values.eoh

-- the values of all stages, by that of each
abbrev pub by_stage : {X : Type 0} → (MacroStage → X) → ByMacroStage X
by_stage value =
    record {
      connect = value Connect;
      helo = value Helo;
      mail = value Mail;
      rcpt = value Rcpt;
      data_cmd = value DataCmd;
      eom = value Eom;
      eoh = value Eoh;
    }

abbrev pub is_stage : MacroStage → MacroStage → Bool
is_stage stage other = bytes_eq (macro_stage_name stage) (macro_stage_name other)

-- the values, with that of one stage changed
abbrev pub changed_at : {X : Type 0} → MacroStage → (X → X) → ByMacroStage X → ByMacroStage X
changed_at stage change values =
    by_stage (λ other. if is_stage stage other then change (at_stage values other) else at_stage values other)

-- the values end as they were, but for that of the stage, which is the last one behind the reference
abbrev pub BorrowsStage : (T : RattleType) → MutBor (ByMacroStage T.Denot) → MacroStage → MutBor T.Denot → Fml
BorrowsStage T values stage value = Lends (the_row T) T values value (λ last. changed_at stage (λ _. last) values.now)
