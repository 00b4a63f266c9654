use Rattle.std.proofs.Common.{◌≡◌, ◌+◌, ◌-◌, ◌^◌, length, min, take}
use Rattle.std.specs.List.{sum_by}
use Rattle.milter_wire.specs.declared.command.Command.TheVariants as commands
use Rattle.milter_wire.specs.Command.{encoding}
use Rattle.milter_mail.proofs.weight.recipients_len.Given as goal

abbrev pub invariant-loop-path : goal.invariant-loop-path
invariant-loop-path l = l.total ≡ min (sum_by (λ path. l.fn.more + length (encoding (commands.Rcpt path))) (take l.path-index l.paths)) (2 ^ 64 - 1)
