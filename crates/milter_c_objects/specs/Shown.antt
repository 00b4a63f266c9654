-- The texts of what a filter is shown.
use Rattle.std.specs.Prelude.{ℕ, List, Option, None, Some, option_map, slice_get}
use Rattle.milter_fields.specs.declared.client.Client.{Client}
use Rattle.milter_fields.specs.declared.client.Origin.{Origin}
use Rattle.milter_fields.specs.declared.client.Origin.TheVariants as origins
use Rattle.milter_protocol.specs.Seen.{Seen}
use Rattle.milter_c_objects.specs.declared.shown.Address.{Address}
use Rattle.milter_c_objects.specs.declared.status.TheConstants.{FAMILY_INET, FAMILY_INET6, FAMILY_UNIX}

-- an address as text, its family and its port
pub record Endpoint : Type 0 where
  pub text : List ℕ
  pub family : ℕ
  pub port : ℕ

abbrev pub endpoint_of : Address → Endpoint
endpoint_of address = record { text = address.text.now; family = address.family; port = address.port }

abbrev pub origin_endpoint : Origin → Option Endpoint
origin_endpoint origins.Unknown = None
origin_endpoint (origins.Unix port address) = Some (record { text = address; family = FAMILY_UNIX; port = port })
origin_endpoint (origins.Inet port address) = Some (record { text = address; family = FAMILY_INET; port = port })
origin_endpoint (origins.Inet6 port address) = Some (record { text = address; family = FAMILY_INET6; port = port })

-- where the client connects from, if that is known
abbrev pub client_endpoint : Option Client → Option Endpoint
client_endpoint None = None
client_endpoint (Some client) = origin_endpoint client.origin

-- the name of the client's host
abbrev pub host_in : Seen → Option (List ℕ)
host_in seen = option_map (λ client. client.host) seen.client

abbrev pub sender_address_in : Seen → Option (List ℕ)
sender_address_in seen = option_map (λ path. path.address) seen.sender

-- the address of the recipient at a place
abbrev pub recipient_at : Seen → ℕ → Option (List ℕ)
recipient_at seen place = option_map (λ path. path.address) (slice_get seen.recipients place)

-- the name and the value of the header field at a place
abbrev pub header_name_at : Seen → ℕ → Option (List ℕ)
header_name_at seen place = option_map (λ header. header.name) (slice_get seen.headers place)

abbrev pub header_value_at : Seen → ℕ → Option (List ℕ)
header_value_at seen place = option_map (λ header. header.value) (slice_get seen.headers place)
