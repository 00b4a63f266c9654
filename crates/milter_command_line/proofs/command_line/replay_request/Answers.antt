use Rattle.std.proofs.Common.{codes, refl, arith, inl, inr}
use Rattle.clap.specs.Words.{found_of}
use Rattle.milter_command_line.specs.declared.limits.TheConstants.{TIMEOUT_MAX, WAIT_MAX}
use Rattle.milter_command_line.specs.declared.limits.TheConstants.{TIMEOUT_DEFAULT}
use Rattle.milter_command_line.proofs.RequestLaws.{no_replay, no_value, number_given, value_given}
use Rattle.milter_command_line.proofs.command_line.replay_request.Goals as goal

pub returns-in_err-address : goal.returns-in_err-address
returns-in_err-address c = rw c.from_residual.ensures (no_replay (found_of c.args.given.now) (inl (no_value (found_of c.args.given.now) (codes "address") c.in_err-address.ensures)))

pub returns-in_err-trace : goal.returns-in_err-trace
returns-in_err-trace c = rw c.from_residual-in_err-trace.ensures (no_replay (found_of c.args.given.now) (inr (no_value (found_of c.args.given.now) (codes "trace") c.in_err-trace.ensures)))

pub returns : goal.returns
returns c =
    let found = found_of c.args.given.now in (
      refl,
      value_given found (codes "address") _ c.in_ok-address.ensures,
      value_given found (codes "trace") _ c.in_ok-trace.ensures,
      number_given TIMEOUT_DEFAULT 1 TIMEOUT_MAX found (codes "timeout") c.get_str-3.result c.number_or.result (omega arith) c.get_str-3.ensures c.number_or.ensures,
      number_given 0 1 WAIT_MAX found (codes "wait") c.get_str-4.result c.number_or-2.result (omega arith) c.get_str-4.ensures c.number_or-2.ensures,
    )
