use Rattle.std.proofs.Common.{codes, refl}
use Rattle.clap.specs.Words.{found_of}
use Rattle.milter_command_line.specs.CommandLine.{IsLoss}
use Rattle.milter_command_line.proofs.RequestLaws.{flag_given, holds_of, no_play, text_given, value_given}
use Rattle.milter_command_line.proofs.command_line.play_request.Goals as goal

pub returns-in_err-session : goal.returns-in_err-session
returns-in_err-session c = rw c.from_residual.ensures (no_play (found_of c.args.given.now) c.in_err-session.ensures)

pub returns : goal.returns
returns c =
    let found = found_of c.args.given.now in (
      refl,
      value_given found (codes "session") _ c.in_ok-session.ensures,
      text_given found (codes "rules") c.get_str-2.result c.get_str-2.ensures,
      flag_given found (codes "ignore-case") c.get_str-3.result c.is_set.result c.get_str-3.ensures c.is_set.ensures,
      flag_given found (codes "least-stages") c.get_str-4.result c.is_set-2.result c.get_str-4.ensures c.is_set-2.ensures,
      text_given found (codes "actions") c.get_str-5.result c.get_str-5.ensures,
      text_given found (codes "protocol") c.get_str-6.result c.get_str-6.ensures,
      text_given found (codes "events") c.get_str-7.result c.get_str-7.ensures,
      holds_of (λ t. IsLoss t c.loss_named.result) found (codes "loss") c.get_str-8.result c.get_str-8.ensures c.loss_named.ensures,
      text_given found (codes "expect") c.get_str-9.result c.get_str-9.ensures,
    )
