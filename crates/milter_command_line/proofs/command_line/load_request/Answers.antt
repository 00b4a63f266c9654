use Rattle.std.proofs.Common.{codes, refl, arith, inl, inr}
use Rattle.clap.specs.Words.{found_of}
use Rattle.milter_command_line.specs.declared.limits.TheConstants.{AT_ONCE_MAX, LOAD_SECONDS_MAX, MESSAGES_MAX, RATE_MAX, TIMEOUT_MAX}
use Rattle.milter_command_line.specs.declared.limits.TheConstants.{LOAD_AT_ONCE_DEFAULT, TIMEOUT_DEFAULT}
use Rattle.milter_command_line.proofs.RequestLaws.{flag_given, no_load, no_value, number_given, value_given}
use Rattle.milter_command_line.proofs.command_line.load_request.Goals as goal

pub returns-in_err-address : goal.returns-in_err-address
returns-in_err-address c = rw c.from_residual.ensures (no_load (found_of c.args.given.now) (inl (no_value (found_of c.args.given.now) (codes "address") c.in_err-address.ensures)))

pub returns-in_err-session : goal.returns-in_err-session
returns-in_err-session c = rw c.from_residual-in_err-session.ensures (no_load (found_of c.args.given.now) (inr (no_value (found_of c.args.given.now) (codes "session") c.in_err-session.ensures)))

pub returns : goal.returns
returns c =
    let found = found_of c.args.given.now in (
      refl,
      value_given found (codes "address") _ c.in_ok-address.ensures,
      value_given found (codes "session") _ c.in_ok-session.ensures,
      number_given LOAD_AT_ONCE_DEFAULT 1 AT_ONCE_MAX found (codes "at-once") c.get_str-3.result c.number_or.result (omega arith) c.get_str-3.ensures c.number_or.ensures,
      number_given 0 1 LOAD_SECONDS_MAX found (codes "for") c.get_str-4.result c.number_or-2.result (omega arith) c.get_str-4.ensures c.number_or-2.ensures,
      number_given 0 1 MESSAGES_MAX found (codes "messages") c.get_str-5.result c.number_or-3.result (omega arith) c.get_str-5.ensures c.number_or-3.ensures,
      number_given 0 1 RATE_MAX found (codes "rate") c.get_str-6.result c.number_or-4.result (omega arith) c.get_str-6.ensures c.number_or-4.ensures,
      number_given TIMEOUT_DEFAULT 1 TIMEOUT_MAX found (codes "timeout") c.get_str-7.result c.number_or-5.result (omega arith) c.get_str-7.ensures c.number_or-5.ensures,
      flag_given found (codes "json") c.get_str-8.result c.is_set.result c.get_str-8.ensures c.is_set.ensures,
    )
