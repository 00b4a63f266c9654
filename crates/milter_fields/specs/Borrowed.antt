-- The values that borrowed ones stand for.
use Rattle.milter_fields.specs.declared.client.Client.{Client}
use Rattle.milter_fields.specs.declared.client.ClientRef.{ClientRef}
use Rattle.milter_fields.specs.declared.client.Origin.{Origin}
use Rattle.milter_fields.specs.declared.client.Origin.TheVariants as origins
use Rattle.milter_fields.specs.declared.client.OriginRef.{OriginRef}
use Rattle.milter_fields.specs.declared.client.OriginRef.TheVariants.{Unknown, Unix, Inet, Inet6}
use Rattle.milter_fields.specs.declared.header.Header.{Header}
use Rattle.milter_fields.specs.declared.header.HeaderRef.{HeaderRef}
use Rattle.milter_fields.specs.declared.pair.Pair.{Pair}
use Rattle.milter_fields.specs.declared.pair.PairRef.{PairRef}
use Rattle.milter_fields.specs.declared.path.Path.{Path}
use Rattle.milter_fields.specs.declared.path.PathRef.{PathRef}

abbrev pub pair_of : PairRef → Pair
pair_of p = record { name = p.name.now; value = p.value.now }

abbrev pub header_of : HeaderRef → Header
header_of h = record { name = h.name.now; value = h.value.now }

abbrev pub path_of : PathRef → Path
path_of p = record { address = p.address.now; params = p.params }

abbrev pub origin_of : OriginRef → Origin
origin_of Unknown = origins.Unknown
origin_of (Unix port address) = origins.Unix port address.now
origin_of (Inet port address) = origins.Inet port address.now
origin_of (Inet6 port address) = origins.Inet6 port address.now

abbrev pub client_of : ClientRef → Client
client_of c = record { host = c.host.now; origin = origin_of c.origin }
