use Rattle.std.proofs.Common.{codes, refl, arith}
use Rattle.clap.specs.Words.{found_of}
use Rattle.milter_command_line.specs.declared.limits.TheConstants.{COUNT_MAX}
use Rattle.milter_command_line.specs.declared.limits.TheConstants.{COUNT_DEFAULT}
use Rattle.milter_command_line.proofs.RequestLaws.{flag_given, no_filter, number_given, text_given, value_given}
use Rattle.milter_command_line.proofs.command_line.filter_request.Goals as goal

pub returns-in_err-address : goal.returns-in_err-address
returns-in_err-address c = rw c.from_residual.ensures (no_filter (found_of c.args.given.now) c.in_err-address.ensures)

pub returns : goal.returns
returns c =
    let found = found_of c.args.given.now in (
      refl,
      value_given found (codes "address") _ c.in_ok-address.ensures,
      text_given found (codes "rules") c.get_str-2.result c.get_str-2.ensures,
      number_given COUNT_DEFAULT 1 COUNT_MAX found (codes "count") c.get_str-3.result c.number_or.result (omega arith) c.get_str-3.ensures c.number_or.ensures,
      flag_given found (codes "lenient") c.get_str-4.result c.is_set.result c.get_str-4.ensures c.is_set.ensures,
      flag_given found (codes "ignore-case") c.get_str-5.result c.is_set-2.result c.get_str-5.ensures c.is_set-2.ensures,
      flag_given found (codes "least-stages") c.get_str-6.result c.is_set-3.result c.get_str-6.ensures c.is_set-3.ensures,
    )
