-- Networks as RFC 4291, 2.3 writes them, and which addresses are within.
use Rattle.std.proofs.Common.{◌≡◌, ℕ, ◌^◌, ◌<◌, [], ◌∷◌, refl, arith, lit<, lit≤}
use Rattle.std.proofs.Math.Nat.{div-eq_of_lt}
use Rattle.std.specs.Prelude.{codes, true, false}
use Rattle.std.specs.Net.Reader.{read_ipv6, read_segments, read_segment, read_ipv4, read_octet, read_number}
use Rattle.milter_address.specs.declared.ip_address.Address.TheVariants.{V4, V6}
use Rattle.milter_address.specs.Networks.{IsDecimal, IsNetworkText, is_within}
use Rattle.milter_address.proofs.AddressRows.{v6_row, v4_row}

sixty : IsDecimal (codes "60") 60
sixty = record { value = ((lit< tt, (lit< tt, (lit< tt, tt))), refl); short = lit≤ tt; exact = λ e. cc }

eight : IsDecimal (codes "8") 8
eight = record { value = ((lit< tt, (lit< tt, tt)), refl); short = lit≤ tt; exact = λ e. refl }

no_superfluous_zero : (number : ℕ) → ¬ (IsDecimal (codes "08") number)
no_superfluous_zero number h = let wrong : 2 ≡ 1 = h.exact refl in omega (arith, wrong)

long_form : IsNetworkText (codes "2001:0DB8:0000:CD30:0000:0000:0000:0000/60") (V6 0x20010db80000cd300000000000000000) 60
unfolding read_ipv6 read_segments read_segment read_ipv4 read_octet read_number
long_form = record {
  address_text = v6_row (codes "2001:0DB8:0000:CD30:0000:0000:0000:0000")
      (0x2001 ∷ 0xdb8 ∷ 0 ∷ 0xcd30 ∷ 0 ∷ 0 ∷ 0 ∷ 0 ∷ []) _ refl refl refl;
  prefix_text = (sixty, lit≤ tt);
}

middle_gap : IsNetworkText (codes "2001:0DB8::CD30:0:0:0:0/60") (V6 0x20010db80000cd300000000000000000) 60
unfolding read_ipv6 read_segments read_segment read_ipv4 read_octet read_number
middle_gap = record {
  address_text = v6_row (codes "2001:0DB8::CD30:0:0:0:0")
      (0x2001 ∷ 0xdb8 ∷ 0 ∷ 0xcd30 ∷ 0 ∷ 0 ∷ 0 ∷ 0 ∷ []) _ refl refl refl;
  prefix_text = (sixty, lit≤ tt);
}

last_gap : IsNetworkText (codes "2001:0DB8:0:CD30::/60") (V6 0x20010db80000cd300000000000000000) 60
unfolding read_ipv6 read_segments read_segment read_ipv4 read_octet read_number
last_gap = record {
  address_text = v6_row (codes "2001:0DB8:0:CD30::")
      (0x2001 ∷ 0xdb8 ∷ 0 ∷ 0xcd30 ∷ 0 ∷ 0 ∷ 0 ∷ 0 ∷ []) _ refl refl refl;
  prefix_text = (sixty, lit≤ tt);
}

-- RFC 4291, 2.3: this is another network
other : IsNetworkText (codes "2001:0DB8::CD30/60") (V6 0x20010db800000000000000000000cd30) 60
unfolding read_ipv6 read_segments read_segment read_ipv4 read_octet read_number
other = record {
  address_text = v6_row (codes "2001:0DB8::CD30")
      (0x2001 ∷ 0xdb8 ∷ 0 ∷ 0 ∷ 0 ∷ 0 ∷ 0 ∷ 0xcd30 ∷ []) _ refl refl refl;
  prefix_text = (sixty, lit≤ tt);
}

ipv4_network : IsNetworkText (codes "10.1.2.3/8") (V4 0x0a010203) 8
unfolding read_ipv4 read_octet read_number
ipv4_network = record {
  address_text = v4_row (codes "10.1.2.3") (10 ∷ 1 ∷ 2 ∷ 3 ∷ []) _ refl refl;
  prefix_text = (eight, lit≤ tt);
}

alone : IsNetworkText (codes "10.1.2.3") (V4 0x0a010203) 32
unfolding read_ipv4 read_octet read_number
alone = record {
  address_text = v4_row (codes "10.1.2.3") (10 ∷ 1 ∷ 2 ∷ 3 ∷ []) _ refl refl;
  prefix_text = refl;
}

-- RFC 4291, 2.3: 2001:0DB8:0:CD30:123:4567:89AB:CDEF is of that subnet
within : is_within (V6 0x20010db80000cd300000000000000000) 60 (V6 0x20010db80000cd300123456789abcdef) ≡ true
within = refl

-- the bits after the prefix don't count, and the last one before it does
last_bit_without : is_within (V4 0x0a0102ff) 24 (V4 0x0a010200) ≡ true
last_bit_without = refl

last_bit_within : is_within (V4 0x0a010200) 24 (V4 0x0a010300) ≡ false
last_bit_within = refl

-- an address counts as its IPv4 address too, and as itself
mapped : is_within (V4 0x0a000000) 8 (V6 0xffff0a010203) ≡ true
mapped = refl

mapped_itself : is_within (V6 0xffff00000000) 96 (V6 0xffff0a010203) ≡ true
mapped_itself = refl

not_mapped : is_within (V4 0x0a000000) 8 (V6 0xfffe0a010203) ≡ false
not_mapped = refl

-- `0.0.0.0/0` has each IPv4 address, and `::/0` has none
all_of_ipv4 : (number : ℕ) → number < 2 ^ 32 → is_within (V4 0) 0 (V4 number) ≡ true
all_of_ipv4 number fits = rw (div-eq_of_lt fits) refl

none_of_ipv4 : (network prefix number : ℕ) → is_within (V6 network) prefix (V4 number) ≡ false
none_of_ipv4 network prefix number = refl
