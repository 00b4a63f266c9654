use Rattle.std.proofs.Common.{codes, refl}
use Rattle.clap.specs.Words.{found_of}
use Rattle.milter_command_line.proofs.RequestLaws.{flag_given, text_given}
use Rattle.milter_command_line.proofs.command_line.answer_request.Goals as goal

pub returns : goal.returns
returns c =
    let found = found_of c.args.given.now in (
      refl,
      text_given found (codes "rules") c.get_str.result c.get_str.ensures,
      flag_given found (codes "lenient") c.get_str-2.result c.is_set.result c.get_str-2.ensures c.is_set.ensures,
      flag_given found (codes "ignore-case") c.get_str-3.result c.is_set-2.result c.get_str-3.ensures c.is_set-2.ensures,
      flag_given found (codes "least-stages") c.get_str-4.result c.is_set-3.result c.get_str-4.ensures c.is_set-3.ensures,
    )
