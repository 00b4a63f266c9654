use Rattle.milter_address.proofs.zone.parse_zoned.Goals as goal
use Rattle.milter_address.proofs.Zones.{none_zoned}

pub returns-then-is_zone-clause-none : goal.returns-then-is_zone-clause-none
returns-then-is_zone-clause-none c =
    none_zoned c.args.text.now _ c.parse_v6.result c.split_at_byte.ensures.before c.parse_v6.ensures.none
