use Rattle.std.proofs.Common.{codes, refl}
use Rattle.clap.specs.Words.{found_of}
use Rattle.milter_command_line.proofs.RequestLaws.{flag_given, no_rules, value_given}
use Rattle.milter_command_line.proofs.command_line.rules_request.Goals as goal

pub returns-in-Some : goal.returns-in-Some
returns-in-Some c =
    let found = found_of c.args.given.now in (
      refl,
      value_given found (codes "file") _ c.in-Some.ensures,
      flag_given found (codes "check") c.get_str-in-Some.result c.is_set.result c.get_str-in-Some.ensures c.is_set.ensures,
    )

pub returns-in-None : goal.returns-in-None
returns-in-None c = no_rules (found_of c.args.given.now) c.in-None.ensures
