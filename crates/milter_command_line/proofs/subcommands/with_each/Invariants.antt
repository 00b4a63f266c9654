use Rattle.std.proofs.Common.{◌≡◌, map, take}
use Rattle.clap.specs.Words.{app_of}
use Rattle.milter_command_line.specs.Words.{app_in, with_apps}
use Rattle.milter_command_line.proofs.subcommands.with_each.Given as goal

abbrev pub invariant-loop-subcommand : goal.invariant-loop-subcommand
invariant-loop-subcommand l = app_of l.command ≡ with_apps (app_of l.fn.command) (map app_in (take l.subcommand-index l.subcommands))
