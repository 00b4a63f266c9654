use Rattle.std.proofs.Common.{rules, sym}
use Rattle.milter_address.specs.declared.ip_address.Address.TheVariants.{V4, V6}
use Rattle.milter_address.proofs.ip_address.Address.parse.Goals as goal
use Rattle.milter_address.proofs.ReadTexts.{address_complete, address_none}
use Rattle.milter_address.proofs.Zones.{none_of_both}

pub returns-in-Some-clause-value : goal.returns-in-Some-clause-value
returns-in-Some-clause-value c = sym (address_complete c.args.text.now (V4 c.in-Some.number) (search rules))

pub returns-in-Some-parse_zoned-clause-value : goal.returns-in-Some-parse_zoned-clause-value
returns-in-Some-parse_zoned-clause-value c = sym (address_complete c.args.text.now (V6 c.in-Some-parse_zoned.number) (search rules))

pub returns-in-None-clause-none : goal.returns-in-None-clause-none
returns-in-None-clause-none c =
    none_of_both c.args.text.now _ c.without_tag.ensures c.in_default.ensures.none c.in-None.ensures.none

pub returns-in-None-clause-value : goal.returns-in-None-clause-value
returns-in-None-clause-value c =
    address_none c.args.text.now
    (none_of_both c.args.text.now _ c.without_tag.ensures c.in_default.ensures.none c.in-None.ensures.none)
