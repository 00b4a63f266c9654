-- Addresses as RFC 4291 and RFC 5952 write them, and texts that write none.
use Rattle.std.proofs.Common.{◌≡◌, ℕ, ◌^◌, List, [], ◌∷◌, refl, sym, ◌∙◌, ap, subst, lit≤, append-nil}
use Rattle.std.specs.Prelude.{Option, Some, None, IsTrue, false, true, codes, drop}
use Rattle.std.specs.List.{before_first, position_or_len}
use Rattle.std.specs.Net.Grammar.{IsColonHex, IsDotted}
use Rattle.std.specs.Net.Reader.{read_ipv6, read_segments, read_segment, read_ipv4, read_octet, read_number, whole_value}
use Rattle.std.proofs.NetLemmas.Ipv6.{read_ipv6_sound, read_ipv6_complete, EndsGroups-nil}
use Rattle.std.proofs.NetLemmas.Ipv4.{read_ipv4_sound, read_ipv4_complete}
use Rattle.milter_address.specs.declared.ip_address.Address.{Address}
use Rattle.milter_address.specs.declared.ip_address.Address.TheVariants.{V4, V6}
use Rattle.milter_address.specs.Addresses.{number_of, IsV4Text, IsV6Text, IsAddressText, is_percent, is_zone, after_tag}

hex_row : (text segments : List ℕ) → read_ipv6 text ≡ Some (segments, []) → IsColonHex text segments
hex_row text segments read =
    let (front, is, written) = read_ipv6_sound text segments [] read in
    let P : List ℕ → Type 0 = λ t. IsColonHex t segments in
    subst P (sym (is ∙ append-nil front)) written

dotted_row : (text octets : List ℕ) → read_ipv4 text ≡ Some (octets, []) → IsDotted text octets
dotted_row text octets read =
    let (front, is, written) = read_ipv4_sound text octets [] read in
    let P : List ℕ → Type 0 = λ t. IsDotted t octets in
    subst P (sym (is ∙ append-nil front)) written

abbrev zone_of : List ℕ → List ℕ
zone_of text = drop (position_or_len is_percent (after_tag text)) (after_tag text)

abbrev address_of : List ℕ → List ℕ
address_of text = before_first is_percent (after_tag text)

-- the text writes the IPv6 address with these segments and this number
pub v6_row : (text segments : List ℕ) (number : ℕ) → IsTrue (is_zone (zone_of text))
    → read_ipv6 (address_of text) ≡ Some (segments, []) → number ≡ number_of (2 ^ 16) segments
    → IsAddressText text (V6 number)
v6_row text segments number zone read value = record {
  zone = zone;
  address = record { segments = segments; written = hex_row _ segments read; value = value };
}

-- the text writes the IPv4 address with these octets and this number
pub v4_row : (text octets : List ℕ) (number : ℕ) → read_ipv4 text ≡ Some (octets, [])
    → number ≡ number_of (2 ^ 8) octets → IsAddressText text (V4 number)
v4_row text octets number read value = record { octets = octets; written = dotted_row text octets read; value = value }

some_not_none : {A : Type 0} (o : Option A) (x : A) → o ≡ None → o ≡ Some x → ⊥
some_not_none o x none some = cc

no_v4 : (text : List ℕ) → whole_value (read_ipv4 text) ≡ None → (number : ℕ) → ¬ (IsV4Text text number)
no_v4 text none number h =
    let P : List ℕ → Type 0 = λ t. whole_value (read_ipv4 t) ≡ Some h.octets in
    let read = ap whole_value (read_ipv4_complete text h.octets [] h.written (lit≤ tt)) in
    some_not_none _ h.octets none (subst P (append-nil text) read)

no_v6 : (text : List ℕ) → whole_value (read_ipv6 text) ≡ None → (number : ℕ) → ¬ (IsV6Text text number)
no_v6 text none number h =
    let P : List ℕ → Type 0 = λ t. whole_value (read_ipv6 t) ≡ Some h.segments in
    let read = ap whole_value (read_ipv6_complete text h.segments [] h.written EndsGroups-nil) in
    some_not_none _ h.segments none (subst P (append-nil text) read)

-- the text writes no address
no_row : (text : List ℕ) → whole_value (read_ipv4 text) ≡ None → whole_value (read_ipv6 (address_of text)) ≡ None
    → (address : Address) → ¬ (IsAddressText text address)
no_row text v4 v6 (V4 number) h = no_v4 text v4 number h
no_row text v4 v6 (V6 number) h = no_v6 (address_of text) v6 number h.address

not_true : false ≡ true → ⊥
not_true e = cc

-- the text has a zone that is none
no_zone_row : (text : List ℕ) → whole_value (read_ipv4 text) ≡ None → is_zone (zone_of text) ≡ false
    → (address : Address) → ¬ (IsAddressText text address)
no_zone_row text v4 zone (V4 number) h = no_v4 text v4 number h
no_zone_row text v4 zone (V6 number) h = not_true (sym zone ∙ h.zone)

full : IsAddressText (codes "ABCD:EF01:2345:6789:ABCD:EF01:2345:6789") (V6 0xabcdef0123456789abcdef0123456789)
unfolding read_ipv6 read_segments read_segment read_ipv4 read_octet read_number
full = v6_row (codes "ABCD:EF01:2345:6789:ABCD:EF01:2345:6789")
    (0xabcd ∷ 0xef01 ∷ 0x2345 ∷ 0x6789 ∷ 0xabcd ∷ 0xef01 ∷ 0x2345 ∷ 0x6789 ∷ []) _ refl refl refl

zeros : IsAddressText (codes "2001:DB8:0:0:8:800:200C:417A") (V6 0x20010db80000000000080800200c417a)
unfolding read_ipv6 read_segments read_segment read_ipv4 read_octet read_number
zeros = v6_row (codes "2001:DB8:0:0:8:800:200C:417A")
    (0x2001 ∷ 0xdb8 ∷ 0 ∷ 0 ∷ 8 ∷ 0x800 ∷ 0x200c ∷ 0x417a ∷ []) _ refl refl refl

middle : IsAddressText (codes "2001:DB8::8:800:200C:417A") (V6 0x20010db80000000000080800200c417a)
unfolding read_ipv6 read_segments read_segment read_ipv4 read_octet read_number
middle = v6_row (codes "2001:DB8::8:800:200C:417A")
    (0x2001 ∷ 0xdb8 ∷ 0 ∷ 0 ∷ 8 ∷ 0x800 ∷ 0x200c ∷ 0x417a ∷ []) _ refl refl refl

multicast : IsAddressText (codes "FF01::101") (V6 0xff010000000000000000000000000101)
unfolding read_ipv6 read_segments read_segment read_ipv4 read_octet read_number
multicast = v6_row (codes "FF01::101") (0xff01 ∷ 0 ∷ 0 ∷ 0 ∷ 0 ∷ 0 ∷ 0 ∷ 0x101 ∷ []) _ refl refl refl

loopback : IsAddressText (codes "::1") (V6 1)
unfolding read_ipv6 read_segments read_segment read_ipv4 read_octet read_number
loopback = v6_row (codes "::1") (0 ∷ 0 ∷ 0 ∷ 0 ∷ 0 ∷ 0 ∷ 0 ∷ 1 ∷ []) _ refl refl refl

unspecified : IsAddressText (codes "::") (V6 0)
unfolding read_ipv6 read_segments read_segment read_ipv4 read_octet read_number
unspecified = v6_row (codes "::") (0 ∷ 0 ∷ 0 ∷ 0 ∷ 0 ∷ 0 ∷ 0 ∷ 0 ∷ []) _ refl refl refl

with_ipv4 : IsAddressText (codes "0:0:0:0:0:0:13.1.68.3") (V6 0x0d014403)
unfolding read_ipv6 read_segments read_segment read_ipv4 read_octet read_number
with_ipv4 = v6_row (codes "0:0:0:0:0:0:13.1.68.3") (0 ∷ 0 ∷ 0 ∷ 0 ∷ 0 ∷ 0 ∷ 0xd01 ∷ 0x4403 ∷ []) _ refl refl refl

mapped : IsAddressText (codes "::FFFF:129.144.52.38") (V6 0xffff81903426)
unfolding read_ipv6 read_segments read_segment read_ipv4 read_octet read_number
mapped = v6_row (codes "::FFFF:129.144.52.38") (0 ∷ 0 ∷ 0 ∷ 0 ∷ 0 ∷ 0xffff ∷ 0x8190 ∷ 0x3426 ∷ []) _ refl refl refl

-- RFC 5952, 1 and 2: the same address
one_group_zero : IsAddressText (codes "2001:db8::0:1:0:0:1") (V6 0x20010db8000000000001000000000001)
unfolding read_ipv6 read_segments read_segment read_ipv4 read_octet read_number
one_group_zero = v6_row (codes "2001:db8::0:1:0:0:1")
    (0x2001 ∷ 0xdb8 ∷ 0 ∷ 0 ∷ 1 ∷ 0 ∷ 0 ∷ 1 ∷ []) _ refl refl refl

second_run : IsAddressText (codes "2001:0db8:0000:0:1::1") (V6 0x20010db8000000000001000000000001)
unfolding read_ipv6 read_segments read_segment read_ipv4 read_octet read_number
second_run = v6_row (codes "2001:0db8:0000:0:1::1")
    (0x2001 ∷ 0xdb8 ∷ 0 ∷ 0 ∷ 1 ∷ 0 ∷ 0 ∷ 1 ∷ []) _ refl refl refl

one_zero : IsAddressText (codes "2001:db8:aaaa:bbbb:cccc:dddd::1") (V6 0x20010db8aaaabbbbccccdddd00000001)
unfolding read_ipv6 read_segments read_segment read_ipv4 read_octet read_number
one_zero = v6_row (codes "2001:db8:aaaa:bbbb:cccc:dddd::1")
    (0x2001 ∷ 0xdb8 ∷ 0xaaaa ∷ 0xbbbb ∷ 0xcccc ∷ 0xdddd ∷ 0 ∷ 1 ∷ []) _ refl refl refl

-- with a tag and a zone
tagged : IsAddressText (codes "ipv6:fe80::1%eth0") (V6 0xfe800000000000000000000000000001)
unfolding read_ipv6 read_segments read_segment read_ipv4 read_octet read_number
tagged = v6_row (codes "ipv6:fe80::1%eth0") (0xfe80 ∷ 0 ∷ 0 ∷ 0 ∷ 0 ∷ 0 ∷ 0 ∷ 1 ∷ []) _ refl refl refl

dotted : IsAddressText (codes "192.0.2.33") (V4 0xc0000221)
unfolding read_ipv4 read_octet read_number
dotted = v4_row (codes "192.0.2.33") (192 ∷ 0 ∷ 2 ∷ 33 ∷ []) _ refl refl

no_leading_zero : (address : Address) → ¬ (IsAddressText (codes "192.0.2.033") address)
unfolding read_ipv6 read_segments read_segment read_ipv4 read_octet read_number
no_leading_zero = no_row (codes "192.0.2.033") refl refl

no_256 : (address : Address) → ¬ (IsAddressText (codes "256.0.2.1") address)
unfolding read_ipv6 read_segments read_segment read_ipv4 read_octet read_number
no_256 = no_row (codes "256.0.2.1") refl refl

no_second_gap : (address : Address) → ¬ (IsAddressText (codes "2001::1::2") address)
unfolding read_ipv6 read_segments read_segment read_ipv4 read_octet read_number
no_second_gap = no_row (codes "2001::1::2") refl refl

no_ninth_group : (address : Address) → ¬ (IsAddressText (codes "1:2:3:4:5:6:7:8:9") address)
unfolding read_ipv6 read_segments read_segment read_ipv4 read_octet read_number
no_ninth_group = no_row (codes "1:2:3:4:5:6:7:8:9") refl refl

no_short : (address : Address) → ¬ (IsAddressText (codes "2001:0DB8:0:CD3") address)
unfolding read_ipv6 read_segments read_segment read_ipv4 read_octet read_number
no_short = no_row (codes "2001:0DB8:0:CD3") refl refl

no_tag_at_ipv4 : (address : Address) → ¬ (IsAddressText (codes "IPv6:192.0.2.1") address)
unfolding read_ipv6 read_segments read_segment read_ipv4 read_octet read_number
no_tag_at_ipv4 = no_row (codes "IPv6:192.0.2.1") refl refl

no_zone_at_ipv4 : (address : Address) → ¬ (IsAddressText (codes "192.0.2.1%eth0") address)
unfolding read_ipv6 read_segments read_segment read_ipv4 read_octet read_number
no_zone_at_ipv4 = no_row (codes "192.0.2.1%eth0") refl refl

no_empty_zone : (address : Address) → ¬ (IsAddressText (codes "fe80::1%") address)
unfolding read_ipv4 read_octet read_number
no_empty_zone = no_zone_row (codes "fe80::1%") refl refl

no_text : (address : Address) → ¬ (IsAddressText [] address)
unfolding read_ipv6 read_segments read_segment read_ipv4 read_octet read_number
no_text = no_row [] refl refl
