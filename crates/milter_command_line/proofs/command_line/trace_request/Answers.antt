use Rattle.std.proofs.Common.{codes, refl, arith}
use Rattle.clap.specs.Words.{found_of}
use Rattle.milter_command_line.specs.declared.limits.TheConstants.{BODIES_MAX}
use Rattle.milter_command_line.proofs.RequestLaws.{any_values_given, flag_given, number_known}
use Rattle.milter_command_line.proofs.command_line.trace_request.Goals as goal

pub returns : goal.returns
returns c =
    let found = found_of c.args.given.now in (
      refl,
      rw (c.in_ok-files.ensures.items, c.unwrap_or-paths.ensures) (any_values_given found (codes "file") c.get_strs.result _ refl c.get_strs.ensures),
      flag_given found (codes "names") c.get_str.result c.is_set.result c.get_str.ensures c.is_set.ensures,
      number_known 0 BODIES_MAX found (codes "bodies") c.get_str-2.result c.number.result (omega arith) c.get_str-2.ensures c.number.ensures,
      flag_given found (codes "pcap") c.get_str-3.result c.is_set-2.result c.get_str-3.ensures c.is_set-2.ensures,
    )
