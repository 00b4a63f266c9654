-- The origins of clients by their endpoints.
use Rattle.std.specs.Prelude.{ℕ, List, Option, None, Some}
use Rattle.milter_fields.specs.declared.client.Origin.{Origin}
use Rattle.milter_fields.specs.declared.client.Origin.TheVariants.{Unknown, Unix, Inet, Inet6}
use Rattle.milter_mail_file.specs.declared.client_line.Family.{Family}
use Rattle.milter_mail_file.specs.declared.client_line.Family.TheVariants as families
use Rattle.milter_mail_file.specs.declared.client_line.Endpoint.{Endpoint}

abbrev pub origin_with : Family → ℕ → List ℕ → Origin
origin_with families.Unix port address = Unix port address
origin_with families.Inet port address = Inet port address
origin_with families.Inet6 port address = Inet6 port address

-- a client without an endpoint is unknown
abbrev pub endpoint_origin : Option Endpoint → Origin
endpoint_origin None = Unknown
endpoint_origin (Some endpoint) = origin_with endpoint.family endpoint.port endpoint.address.now
