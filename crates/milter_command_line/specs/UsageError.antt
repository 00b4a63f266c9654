-- The lines of wrong uses of the program.
use Rattle.std.specs.Prelude.{ℕ, List, [], ◌∷◌, ◌++◌, Option, None, Some, codes}
use Rattle.milter_command_line.specs.declared.usage_error.UsageError.{UsageError}
use Rattle.milter_command_line.specs.declared.usage_error.UsageError.TheVariants.{CommandLine, NotUtf8, BadActions}
use Rattle.milter_command_line.specs.declared.usage_error.UsageError.TheVariants.{BadProtocol, BadMacro, BadTrials, BadAddress, BadMode}

-- what standard error gets: the text that explains a wrong command line is not stated
abbrev pub usage_lines : UsageError → Option (List ℕ)
usage_lines (CommandLine error) = None
usage_lines NotUtf8 = Some (codes "error: invalid UTF-8 was detected in one or more arguments" ++ 10 ∷ [])
usage_lines BadActions = Some (codes "bad value for --actions" ++ 10 ∷ [])
usage_lines BadProtocol = Some (codes "bad value for --protocol" ++ 10 ∷ [])
usage_lines BadMacro = Some (codes "bad value for --macro" ++ 10 ∷ [])
usage_lines BadTrials = Some (codes "bad value for --only" ++ 10 ∷ [])
usage_lines BadAddress = Some (codes "bad address" ++ 10 ∷ [])
usage_lines BadMode = Some (codes "bad mode" ++ 10 ∷ [])
