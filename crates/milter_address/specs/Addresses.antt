-- The texts of IP addresses, and the numbers that their bits are.
use Rattle.std.specs.Prelude.{◌≡◌, ℕ, ◌+◌, ◌*◌, ◌/◌, ◌%◌, ◌^◌, ◌==◌, Bool, true, ◌&&◌, ◌||◌, not, List, [], ◌∷◌, length, take, drop, map, fold, nat_lt, bytes_eq, codes, Option, Some, None, IsTrue, if◌then◌else◌}
use Rattle.std.specs.List.{list_all, position_or_len, before_first}
use Rattle.std.specs.Char.{to_ascii_lowercase}
use Rattle.std.specs.Net.Grammar.{IsDotted, IsColonHex}
use Rattle.milter_address.specs.declared.ip_address.Address.{Address}
use Rattle.milter_address.specs.declared.ip_address.Address.TheVariants.{V4, V6}

-- the number of these digits, the highest first
abbrev pub number_of : ℕ → List ℕ → ℕ
number_of base digits = fold (λ number digit. number * base + digit) 0 digits

-- the text writes the IPv4 address of this number: four decimal numbers below 256, without superfluous zeros
pub record IsV4Text (text : List ℕ) (number : ℕ) : Type 0 where
  pub octets : List ℕ
  pub written : IsDotted text octets
  pub value : number ≡ number_of (2 ^ 8) octets

-- the text writes the IPv6 address of this number (RFC 4291, 2.2)
pub record IsV6Text (text : List ℕ) (number : ℕ) : Type 0 where
  pub segments : List ℕ
  pub written : IsColonHex text segments
  pub value : number ≡ number_of (2 ^ 16) segments

-- the text after `IPv6:`, in either case, or all of it where it doesn't begin so (RFC 5321, 4.1.3)
abbrev pub after_tag : List ℕ → List ℕ
after_tag text =
    if bytes_eq (map to_ascii_lowercase (take 5 text)) (codes "ipv6:") then drop 5 text else text

-- `%`, which a zone begins with (RFC 4007, 11.2)
abbrev pub is_percent : ℕ → Bool
is_percent byte = byte == 37

-- `/`, which a prefix begins with (RFC 4291, 2.3)
abbrev pub is_slash : ℕ → Bool
is_slash byte = byte == 47

-- one of these
abbrev pub is_delimiter : ℕ → Bool
is_delimiter byte = is_percent byte || is_slash byte

-- no zone, or `%` and a name, which has no delimiter (RFC 4007, 11.2 and 11.7)
abbrev pub is_zone : List ℕ → Bool
is_zone [] = true
is_zone (percent ∷ name) = nat_lt 0 (length name) && list_all (λ byte. not (is_delimiter byte)) name

-- the text writes the IPv6 address of this number, with a zone after it or none
pub record IsZonedText (text : List ℕ) (number : ℕ) : Type 0 where
  pub zone : IsTrue (is_zone (drop (position_or_len is_percent text) text))
  pub address : IsV6Text (before_first is_percent text) number

-- the text writes this address
abbrev pub IsAddressText : List ℕ → Address → Type 0
IsAddressText text (V4 number) = IsV4Text text number
IsAddressText text (V6 number) = IsZonedText (after_tag text) number

-- how many bits an address has
abbrev pub bits_of : Address → ℕ
bits_of (V4 number) = 32
bits_of (V6 number) = 128

-- the IPv4 address of an IPv4-mapped IPv6 address, ::ffff:a.b.c.d (RFC 4291, 2.5.5.2)
abbrev pub ipv4_mapped : Address → Option Address
ipv4_mapped (V4 number) = None
ipv4_mapped (V6 number) =
    if number / 2 ^ 32 == 0xffff then Some (V4 (number % 2 ^ 32)) else None
