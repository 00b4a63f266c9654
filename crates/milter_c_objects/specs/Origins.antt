-- Where a client connects from, by the number of the family of its address.
use Rattle.std.specs.Prelude.{ℕ, nat_eq, List, Option, None, Some, if◌then◌else◌}
use Rattle.milter_fields.specs.declared.client.Origin.{Origin}
use Rattle.milter_fields.specs.declared.client.Origin.TheVariants as origins
use Rattle.milter_c_objects.specs.declared.status.TheConstants as status

-- an unknown one has neither port nor address
abbrev pub origin_numbered : ℕ → ℕ → List ℕ → Option Origin
origin_numbered family port address =
    if nat_eq family status.FAMILY_UNKNOWN then Some origins.Unknown
    else if nat_eq family status.FAMILY_UNIX then Some (origins.Unix port address)
    else if nat_eq family status.FAMILY_INET then Some (origins.Inet port address)
    else if nat_eq family status.FAMILY_INET6 then Some (origins.Inet6 port address)
    else None
