-- The texts of networks, and which addresses are within a network.
use Rattle.std.specs.Prelude.{◌≡◌, ℕ, ◌-◌, ◌/◌, ◌^◌, ◌≤◌, ◌==◌, Bool, false, ◌||◌, List, [], ◌∷◌, length, drop, slice_index, Option, Some, None}
use Rattle.std.specs.List.{position_or_len, before_first}
use Rattle.std.specs.Net.Grammar.{IsNumber}
use Rattle.milter_address.specs.declared.ip_address.Address.{Address}
use Rattle.milter_address.specs.declared.ip_address.Address.TheVariants.{V4, V6}
use Rattle.milter_address.specs.Addresses.{IsAddressText, bits_of, ipv4_mapped, is_slash}

-- at most three decimal digits that write the number, the first of several not a zero
pub record IsDecimal (text : List ℕ) (number : ℕ) : Type 0 where
  pub value : IsNumber 10 text number
  pub short : length text ≤ 3
  pub exact : slice_index text 0 ≡ 48 → length text ≡ 1

-- what follows an address of so many bits, which writes how many of them are fixed: nothing, where all are, or `/` and
-- their number (RFC 4291, 2.3)
abbrev pub IsPrefixText : List ℕ → ℕ → ℕ → Type 0
IsPrefixText [] bits prefix = prefix ≡ bits
IsPrefixText (slash ∷ digits) bits prefix = IsDecimal digits prefix × (prefix ≤ bits)

-- the text writes the network of this address and so many fixed bits
pub record IsNetworkText (text : List ℕ) (address : Address) (prefix : ℕ) : Type 0 where
  pub address_text : IsAddressText (before_first is_slash text) address
  pub prefix_text : IsPrefixText (drop (position_or_len is_slash text) text) (bits_of address) prefix

-- two addresses are of one family, and so many of their first bits are the same
abbrev pub shares_prefix : ℕ → Address → Address → Bool
shares_prefix prefix (V4 a) (V4 b) = a / 2 ^ (32 - prefix) == b / 2 ^ (32 - prefix)
shares_prefix prefix (V6 a) (V6 b) = a / 2 ^ (128 - prefix) == b / 2 ^ (128 - prefix)
shares_prefix prefix a b = false

-- the IPv4 address shares the bits, if there is one
abbrev pub mapped_shares_prefix : ℕ → Address → Option Address → Bool
mapped_shares_prefix prefix a None = false
mapped_shares_prefix prefix a (Some b) = shares_prefix prefix a b

-- an address is within the network of an address and so many fixed bits
abbrev pub is_within : Address → ℕ → Address → Bool
is_within network prefix address =
    shares_prefix prefix network address
    || mapped_shares_prefix prefix network (ipv4_mapped address)
