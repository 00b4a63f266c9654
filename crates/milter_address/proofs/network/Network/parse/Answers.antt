use Rattle.std.proofs.Common.{rules, sym}
use Rattle.milter_address.proofs.network.Network.parse.Goals as goal
use Rattle.milter_address.proofs.Prefixes.{none_prefixed}
use Rattle.milter_address.proofs.ReadTexts.{network_complete, network_none}

pub returns-in_err-prefix-clause-none : goal.returns-in_err-prefix-clause-none
returns-in_err-prefix-clause-none c =
    rw c.from_residual-in_err-prefix.ensures
    (none_prefixed c.args.text.now _ _ c.in_ok-address.address c.split_at_byte.ensures.before
    c.split_at_byte.ensures.rest c.in_ok-address.ensures.parsed
    (λ prefix h. c.in_err-prefix.ensures.none prefix (rw c.bits.ensures h)))

pub returns-in_err-address-clause-value : goal.returns-in_err-address-clause-value
returns-in_err-address-clause-value c =
    rw c.from_residual.ensures
    (network_none c.args.text.now
    (λ address prefix network. c.in_err-address.ensures.none address (rw c.split_at_byte.ensures.before network.address_text)))

pub returns-in_err-prefix-clause-value : goal.returns-in_err-prefix-clause-value
returns-in_err-prefix-clause-value c =
    rw c.from_residual-in_err-prefix.ensures
    (network_none c.args.text.now
    (none_prefixed c.args.text.now _ _ c.in_ok-address.address c.split_at_byte.ensures.before
    c.split_at_byte.ensures.rest c.in_ok-address.ensures.parsed
    (λ prefix h. c.in_err-prefix.ensures.none prefix (rw c.bits.ensures h))))

pub returns-clause-value : goal.returns-clause-value
returns-clause-value c =
    sym (network_complete c.args.text.now c.in_ok-address.address c.in_ok-prefix.prefix (search rules))
