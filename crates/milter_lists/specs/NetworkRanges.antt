-- The ranges of networks: the numbers of their addresses, those of each family for themselves.
use Rattle.std.specs.Prelude.{ℕ, ◌+◌, ◌-◌, ◌*◌, ◌/◌, ◌^◌, Bool, false, ◌||◌, List, Option, None, Some}
use Rattle.milter_lists.specs.declared.number_range.NumberRange.{NumberRange}
use Rattle.milter_lists.specs.Ranges.{has_number}
use Rattle.milter_address.specs.declared.ip_address.Address.{Address}
use Rattle.milter_address.specs.declared.ip_address.Address.TheVariants.{V4, V6}
use Rattle.milter_address.specs.Addresses.{ipv4_mapped}

-- the least of the numbers that differ from this one in the last bits alone
abbrev pub first_of : ℕ → ℕ → ℕ
first_of number last_bits = number / 2 ^ last_bits * 2 ^ last_bits

-- all of these numbers
abbrev pub range_of : ℕ → ℕ → NumberRange
range_of number last_bits =
    record { first = first_of number last_bits; last = first_of number last_bits + (2 ^ last_bits - 1) }

-- ---- an address in ranges of IPv4 addresses and of IPv6 addresses

abbrev pub is_in_ranges : List NumberRange → List NumberRange → Address → Bool
is_in_ranges v4 v6 (V4 number) = has_number v4 number
is_in_ranges v4 v6 (V6 number) = has_number v6 number

abbrev pub mapped_is_in_ranges : List NumberRange → List NumberRange → Option Address → Bool
mapped_is_in_ranges v4 v6 None = false
mapped_is_in_ranges v4 v6 (Some address) = is_in_ranges v4 v6 address

-- the address, or the IPv4 address that it maps
abbrev pub have_address : List NumberRange → List NumberRange → Option Address → Bool
have_address v4 v6 None = false
have_address v4 v6 (Some address) =
    is_in_ranges v4 v6 address || mapped_is_in_ranges v4 v6 (ipv4_mapped address)
