-- The macros of each stage that has some.
use Rattle.std.specs.Prelude.{List}
use Rattle.milter_fields.specs.declared.pair.Pair.{Pair}
use Rattle.milter_mail.specs.declared.by_macro_stage.ByMacroStage.{ByMacroStage}

abbrev pub Macros : Type 0
Macros = ByMacroStage (List Pair)
