use Rattle.std.proofs.Common.{codes, refl, arith, inl, inr}
use Rattle.clap.specs.Words.{found_of}
use Rattle.milter_command_line.specs.CommandLine.{IsLoss}
use Rattle.milter_command_line.specs.declared.limits.TheConstants.{SENT_MAX, TIMEOUT_MAX, WAIT_MAX}
use Rattle.milter_command_line.specs.declared.limits.TheConstants.{TIMEOUT_DEFAULT}
use Rattle.milter_command_line.proofs.RequestLaws.{any_values_given, flag_given, holds_of, no_mta, no_value, number_given, number_known, text_given, value_given}
use Rattle.milter_command_line.proofs.command_line.mta_request.Goals as goal

pub returns-in_default : goal.returns-in_default
returns-in_default c = no_mta (found_of c.args.given.now) (inl (no_value (found_of c.args.given.now) (codes "address") c.in_default.ensures))

pub returns-in_default-get_str : goal.returns-in_default-get_str
returns-in_default-get_str c = no_mta (found_of c.args.given.now) (inr (no_value (found_of c.args.given.now) (codes "session") c.in_default-get_str.ensures))

pub returns : goal.returns
returns c =
    let found = found_of c.args.given.now in (
      refl,
      value_given found (codes "address") _ c.in-Some.ensures,
      value_given found (codes "session") _ c.in-Some-get_str.ensures,
      holds_of (λ t. IsLoss t c.loss_named.result) found (codes "loss") c.get_str-3.result c.get_str-3.ensures c.loss_named.ensures,
      number_given TIMEOUT_DEFAULT 1 TIMEOUT_MAX found (codes "timeout") c.get_str-4.result c.number_or.result (omega arith) c.get_str-4.ensures c.number_or.ensures,
      text_given found (codes "actions") c.get_str-5.result c.get_str-5.ensures,
      text_given found (codes "protocol") c.get_str-6.result c.get_str-6.ensures,
      number_given 0 1 WAIT_MAX found (codes "wait") c.get_str-7.result c.number_or-2.result (omega arith) c.get_str-7.ensures c.number_or-2.ensures,
      text_given found (codes "expect") c.get_str-8.result c.get_str-8.ensures,
      flag_given found (codes "show-negotiation") c.get_str-9.result c.is_set.result c.get_str-9.ensures c.is_set.ensures,
      rw (c.in_ok-macros.ensures.items, c.unwrap_or.ensures) (any_values_given found (codes "macro") c.get_strs.result _ refl c.get_strs.ensures),
      number_known 0 SENT_MAX found (codes "at-loss") c.get_str-10.result c.number.result (omega arith) c.get_str-10.ensures c.number.ensures,
    )
