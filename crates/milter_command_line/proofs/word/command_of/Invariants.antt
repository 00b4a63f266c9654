use Rattle.std.proofs.Common.{◌≡◌, map, take}
use Rattle.clap.specs.Words.{app_of, new_app}
use Rattle.milter_command_line.specs.Words.{IsLocal, rule_of_word, with_rules}
use Rattle.milter_command_line.proofs.word.command_of.Given as goal

abbrev pub invariant-loop-word : goal.invariant-loop-word
invariant-loop-word l = record {
  shape : app_of l.command ≡ with_rules (new_app l.fn.subcommand.name.now) (map rule_of_word (take l.word-index l.subcommand.words.now));
  local : IsLocal l.command;
}
