use Rattle.std.proofs.Common.{codes, refl, arith, inl, inr}
use Rattle.clap.specs.Words.{found_of}
use Rattle.milter_command_line.specs.declared.limits.TheConstants.{SEED_MAX, TIMEOUT_MAX}
use Rattle.milter_command_line.specs.declared.limits.TheConstants.{PROBE_TIMEOUT_DEFAULT, SEED_DEFAULT}
use Rattle.milter_command_line.proofs.RequestLaws.{no_probe, no_value, number_given, text_given, value_given}
use Rattle.milter_command_line.proofs.command_line.probe_request.Goals as goal

pub returns-in_err-address : goal.returns-in_err-address
returns-in_err-address c = rw c.from_residual.ensures (no_probe (found_of c.args.given.now) (inl (no_value (found_of c.args.given.now) (codes "address") c.in_err-address.ensures)))

pub returns-in_err-session : goal.returns-in_err-session
returns-in_err-session c = rw c.from_residual-in_err-session.ensures (no_probe (found_of c.args.given.now) (inr (no_value (found_of c.args.given.now) (codes "session") c.in_err-session.ensures)))

pub returns : goal.returns
returns c =
    let found = found_of c.args.given.now in (
      refl,
      value_given found (codes "address") _ c.in_ok-address.ensures,
      value_given found (codes "session") _ c.in_ok-session.ensures,
      text_given found (codes "only") c.get_str-3.result c.get_str-3.ensures,
      number_given SEED_DEFAULT 0 SEED_MAX found (codes "seed") c.get_str-4.result c.number_or.result (omega arith) c.get_str-4.ensures c.number_or.ensures,
      number_given PROBE_TIMEOUT_DEFAULT 1 TIMEOUT_MAX found (codes "timeout") c.get_str-5.result c.number_or-2.result (omega arith) c.get_str-5.ensures c.number_or-2.ensures,
    )
