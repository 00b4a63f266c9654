use Rattle.std.proofs.Common.{codes, refl, arith, inl, inr}
use Rattle.clap.specs.Words.{found_of}
use Rattle.milter_command_line.specs.declared.limits.TheConstants.{COUNT_MAX}
use Rattle.milter_command_line.proofs.RequestLaws.{no_record, no_value, number_given, value_given}
use Rattle.milter_command_line.proofs.command_line.record_request.Goals as goal

pub returns-in_err-listen : goal.returns-in_err-listen
returns-in_err-listen c = rw c.from_residual.ensures (no_record (found_of c.args.given.now) (inl (no_value (found_of c.args.given.now) (codes "listen") c.in_err-listen.ensures)))

pub returns-in_err-address : goal.returns-in_err-address
returns-in_err-address c = rw c.from_residual-in_err-address.ensures (no_record (found_of c.args.given.now) (inr (inl (no_value (found_of c.args.given.now) (codes "address") c.in_err-address.ensures))))

pub returns-in_err-directory : goal.returns-in_err-directory
returns-in_err-directory c = rw c.from_residual-in_err-directory.ensures (no_record (found_of c.args.given.now) (inr (inr (no_value (found_of c.args.given.now) (codes "directory") c.in_err-directory.ensures))))

pub returns : goal.returns
returns c =
    let found = found_of c.args.given.now in (
      refl,
      value_given found (codes "listen") _ c.in_ok-listen.ensures,
      value_given found (codes "address") _ c.in_ok-address.ensures,
      value_given found (codes "directory") _ c.in_ok-directory.ensures,
      number_given 0 1 COUNT_MAX found (codes "count") c.get_str-4.result c.number_or.result (omega arith) c.get_str-4.ensures c.number_or.ensures,
    )
