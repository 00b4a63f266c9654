-- The address and the network that a text writes, as values; none where it writes none.
use Rattle.std.specs.Prelude.{ℕ, ◌^◌, nat_le, Bool, true, false, List, [], ◌∷◌, drop, Option, Some, None, option_map, option_and_then, if◌then◌else◌}
use Rattle.std.specs.List.{before_first, position_or_len}
use Rattle.std.specs.Net.Reader.{read_ipv4, read_ipv6, read_octet, whole_value}
use Rattle.milter_address.specs.declared.ip_address.Address.{Address}
use Rattle.milter_address.specs.declared.ip_address.Address.TheVariants.{V4, V6}
use Rattle.milter_address.specs.Addresses.{after_tag, bits_of, is_percent, is_slash, is_zone, number_of}
use Rattle.milter_address.specs.Networks.{is_within}

-- the number of the IPv4 address that the text writes
abbrev pub v4_in : List ℕ → Option ℕ
v4_in text = option_map (number_of (2 ^ 8)) (whole_value (read_ipv4 text))

-- the number of the IPv6 address that the text writes
abbrev pub v6_in : List ℕ → Option ℕ
v6_in text = option_map (number_of (2 ^ 16)) (whole_value (read_ipv6 text))

-- .. with a zone after it or none
abbrev pub zoned_in : List ℕ → Option ℕ
zoned_in text =
    if is_zone (drop (position_or_len is_percent text) text) then v6_in (before_first is_percent text) else None

-- the first, or the second where there is none
abbrev pub or_else : Option ℕ → Option ℕ → Option Address
or_else (Some number) other = Some (V4 number)
or_else None other = option_map V6 other

abbrev pub address_in : List ℕ → Option Address
address_in text = or_else (v4_in text) (zoned_in (after_tag text))

-- a number of fixed bits of so many
abbrev pub if_at_most : ℕ → ℕ → Option ℕ
if_at_most bits prefix = if nat_le prefix bits then Some prefix else None

-- how many of so many bits are fixed by what follows an address
abbrev pub prefix_in : List ℕ → ℕ → Option ℕ
prefix_in [] bits = Some bits
prefix_in (slash ∷ digits) bits = option_and_then (if_at_most bits) (whole_value (read_octet digits))

-- the address and the number of fixed bits of the network that the text writes
abbrev pub with_prefix : List ℕ → Address → Option (Address × ℕ)
with_prefix rest address = option_map (λ prefix. (address, prefix)) (prefix_in rest (bits_of address))

abbrev pub network_in : List ℕ → Option (Address × ℕ)
network_in text =
    option_and_then (with_prefix (drop (position_or_len is_slash text) text))
    (address_in (before_first is_slash text))

-- the address of a text is within the network of a text
abbrev pub holds_address : Option (Address × ℕ) → Option Address → Bool
holds_address (Some network) (Some address) = is_within network.0 network.1 address
holds_address network address = false

abbrev pub is_text_within : List ℕ → List ℕ → Bool
is_text_within network address = holds_address (network_in network) (address_in address)
