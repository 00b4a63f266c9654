use Rattle.std.proofs.Common.{codes, refl, arith}
use Rattle.clap.specs.Words.{found_of}
use Rattle.milter_command_line.specs.declared.limits.TheConstants.{AT_ONCE_MAX, IDLE_MAX, MODE_MAX}
use Rattle.milter_command_line.specs.declared.limits.TheConstants.{AT_ONCE_DEFAULT, IDLE_DEFAULT, MODE_DEFAULT}
use Rattle.milter_command_line.proofs.RequestLaws.{flag_given, no_serve, number_given, text_given, values_given}
use Rattle.milter_command_line.proofs.command_line.serve_request.Goals as goal

pub returns-in_default : goal.returns-in_default
returns-in_default c = no_serve (found_of c.args.given.now) c.in_default.ensures

pub returns : goal.returns
returns c =
    let found = found_of c.args.given.now in (
      refl,
      rw c.in_ok-addresses.ensures.items (values_given found (codes "address") _ c.in-Some.ensures),
      text_given found (codes "rules") c.get_str.result c.get_str.ensures,
      number_given AT_ONCE_DEFAULT 1 AT_ONCE_MAX found (codes "at-once") c.get_str-2.result c.number_or.result (omega arith) c.get_str-2.ensures c.number_or.ensures,
      number_given IDLE_DEFAULT 1 IDLE_MAX found (codes "timeout") c.get_str-3.result c.number_or-2.result (omega arith) c.get_str-3.ensures c.number_or-2.ensures,
      number_given MODE_DEFAULT 1 MODE_MAX found (codes "mode") c.get_str-4.result c.number_or-3.result (omega arith) c.get_str-4.ensures c.number_or-3.ensures,
      flag_given found (codes "log") c.get_str-5.result c.is_set.result c.get_str-5.ensures c.is_set.ensures,
      flag_given found (codes "ignore-case") c.get_str-6.result c.is_set-2.result c.get_str-6.ensures c.is_set-2.ensures,
      flag_given found (codes "all-stages") c.get_str-7.result c.is_set-3.result c.get_str-7.ensures c.is_set-3.ensures,
    )
