use Rattle.std.proofs.Common.{◌+◌, sym}
use Rattle.std.proofs.lemmas.List.{take_rest}
use Rattle.milter_fields.proofs.StringFields.{string_at-no_nul, string_at-nul}
use Rattle.milter_fields.proofs.strings.take_string.Goals as goal

pub returns-in_err-end : goal.returns-in_err-end
returns-in_err-end c = rw c.from_residual.ensures (sym (string_at-no_nul c.args.bytes.now (sym c.in_err-end.ensures)))

pub returns : goal.returns
returns c = rw (take_rest c.args.bytes.now (c.in_ok-end.end + 1)) (sym (string_at-nul c.args.bytes.now c.in_ok-end.end (sym c.in_ok-end.ensures)))
