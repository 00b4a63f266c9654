use Rattle.std.proofs.Common.{arith, refl, ◌∙◌}
use Rattle.clap.specs.Words.{app_of, new_app, rule_of}
use Rattle.milter_command_line.proofs.RowLaws.{with_rules-more}
use Rattle.milter_command_line.proofs.word.command_of.Goals as goal

pub loop-word-preserved : goal.loop-word-preserved
loop-word-preserved c =
    let none = c.loop-word.invariant.local in
    let local = c.arg_of.ensures.local in
    record {
      shape = with_rules-more (new_app c.args.subcommand.name.now) (app_of c.loop-word.command) (app_of c.in_ok-command.command) c.args.subcommand.words.now c.loop-word.word-index _ (rule_of c.arg_of.result) (omega arith) c.loop-word.invariant.shape
          (c.in_ok-command.ensures.shape local) c.arg_of.ensures.rule;
      local = c.in_ok-command.ensures.globals ∙ rw (none, local) refl;
    }
