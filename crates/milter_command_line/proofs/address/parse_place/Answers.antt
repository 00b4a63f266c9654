use Rattle.std.proofs.Common.{refl, sym}
use Rattle.std.proofs.lemmas.Bool.{eqb-true}
use Rattle.milter_command_line.proofs.AddressLaws.{no_cut, no_host, no_port}
use Rattle.milter_command_line.proofs.address.parse_place.Goals as goal

pub returns-in_err-digits-clause-only : goal.returns-in_err-digits-clause-only
returns-in_err-digits-clause-only c = λ _. no_cut c.args.place.now c.in_err-digits.ensures.cases

pub returns-in_err-port-clause-only : goal.returns-in_err-port-clause-only
returns-in_err-port-clause-only c = λ _. no_port c.args.place.now (c.in_ok-digits.digits, c.in_ok-digits.host) c.in_ok-digits.ensures.cases (c.in_err-port.ensures.only refl)

pub returns-then-is_empty-clause-only : goal.returns-then-is_empty-clause-only
returns-then-is_empty-clause-only c = λ _. no_host c.args.place.now (c.in_ok-digits.digits, c.in_ok-digits.host) c.in_ok-digits.ensures.cases (eqb-true _ 0 (sym c.if-is_empty.ensures))
