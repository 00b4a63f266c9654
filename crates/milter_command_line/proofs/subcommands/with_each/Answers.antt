use Rattle.std.proofs.Common.{arith}
use Rattle.clap.specs.Words.{app_of}
use Rattle.milter_command_line.proofs.RowLaws.{with_apps-more}
use Rattle.milter_command_line.proofs.subcommands.with_each.Goals as goal

pub loop-subcommand-preserved : goal.loop-subcommand-preserved
loop-subcommand-preserved c =
    with_apps-more (app_of c.args.command) c.loop-subcommand.command _ _ c.loop-subcommand.subcommand-index _ (omega arith)
    c.loop-subcommand.invariant c.in_ok-command.ensures
