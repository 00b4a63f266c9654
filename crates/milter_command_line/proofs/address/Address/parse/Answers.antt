use Rattle.std.proofs.Common.{refl, rules}
use Rattle.milter_command_line.proofs.AddressLaws.{no_inet}
use Rattle.milter_command_line.proofs.address.Address.parse.Goals as goal

pub returns-in_err-port-in-inet-default-clause-only : goal.returns-in_err-port-in-inet-default-clause-only
returns-in_err-port-in-inet-default-clause-only c = λ _. no_inet c.args.text.now c.in_ok-place.field-0 c.in_ok-place.ensures.cases (search rules) (c.in_err-port-in-inet-default.ensures.only refl)
