-- The numbers of addresses, from their octets and segments.
use Rattle.std.proofs.Common.{◌≡◌, ℕ, ◌+◌, ◌-◌, ◌<◌, ◌^◌, List, [], ◌∷◌, ◌++◌, length, refl, arith, sym, ◌∙◌, ap, subst, inl, inr, length-append}
use Rattle.std.specs.Prelude.{replicate}
use Rattle.std.proofs.lemmas.List.{length-replicate}
use Rattle.std.proofs.lemmas.Nat.{div-add-mod'}
use Rattle.std.proofs.NetLemmas.Arrays.{eight_items}
use Rattle.std.specs.Int.{w32, w128, from_be_bytes}
use Rattle.std.specs.Net.Addr.{ipv4_bits, ipv6_bits, ipv4_octets, ipv6_segments, octets_of, segments_of}
use Rattle.std.specs.Net.Grammar.{IsColonHex, IsIpv4Text, IsIpv6Text}
use Rattle.std.specs.declared.net.ipv4_addr.Ipv4Addr.{Ipv4Addr}
use Rattle.std.specs.declared.net.ipv6_addr.Ipv6Addr.{Ipv6Addr}
use Rattle.milter_address.specs.Addresses.{number_of, IsV4Text, IsV6Text}

four_octets : (a b c d : ℕ) → from_be_bytes w32 (a ∷ b ∷ c ∷ d ∷ []) ≡ number_of (2 ^ 8) (a ∷ b ∷ c ∷ d ∷ [])
four_octets a b c d = omega arith

-- the number of an IPv4 address
v4_number : (text : List ℕ) (a : Ipv4Addr) → IsIpv4Text text a → ipv4_bits a ≡ number_of (2 ^ 8) (ipv4_octets a)
unfolding ipv4_bits
v4_number text a written =
    let P : List ℕ → Type 0 = λ octets. from_be_bytes w32 octets ≡ number_of (2 ^ 8) octets in
    subst P (sym written.value) (four_octets written.a written.b written.c written.d)

-- what `parse_ascii` gives is what the text writes
pub v4_parsed : (text : List ℕ) (a : Ipv4Addr) (number : ℕ) → IsIpv4Text text a → number ≡ ipv4_bits a → IsV4Text text number
v4_parsed text a number written is =
    record { octets = ipv4_octets a; written = written; value = is ∙ v4_number text a written }

-- where it fails the text writes no IPv4 address
pub v4_none : (text : List ℕ) → ((a : Ipv4Addr) → ¬ (IsIpv4Text text a)) → (number : ℕ) → ¬ (IsV4Text text number)
v4_none text none number text_is = none (record { octets = text_is.octets }) text_is.written

sixteen_octets : (a b c d e f g h i j k l m n o p : ℕ)
    → let octets = a ∷ b ∷ c ∷ d ∷ e ∷ f ∷ g ∷ h ∷ i ∷ j ∷ k ∷ l ∷ m ∷ n ∷ o ∷ p ∷ [] in
    from_be_bytes w128 octets ≡ number_of (2 ^ 16) (segments_of octets)
sixteen_octets a b c d e f g h i j k l m n o p = omega arith

segments_again : (segments : List ℕ) → segments_of (octets_of segments) ≡ segments
segments_again [] = refl
segments_again (s ∷ segments) =
    ap (λ x. x ∷ segments_of (octets_of segments)) (div-add-mod' s 256) ∙ ap (λ xs. s ∷ xs) (segments_again segments)

written_segments : (a b c d e f g h : ℕ)
    → let segments = a ∷ b ∷ c ∷ d ∷ e ∷ f ∷ g ∷ h ∷ [] in
    from_be_bytes w128 (octets_of segments) ≡ number_of (2 ^ 16) segments
written_segments a b c d e f g h =
    sixteen_octets _ _ _ _ _ _ _ _ _ _ _ _ _ _ _ _
    ∙ ap (number_of (2 ^ 16)) (segments_again (a ∷ b ∷ c ∷ d ∷ e ∷ f ∷ g ∷ h ∷ []))

eight_segments : (segments : List ℕ) → length segments ≡ 8
    → from_be_bytes w128 (octets_of segments) ≡ number_of (2 ^ 16) segments
eight_segments segments eight =
    let P : List ℕ → Type 0 = λ xs. from_be_bytes w128 (octets_of xs) ≡ number_of (2 ^ 16) xs in
    subst P (sym (eight_items segments eight)) (written_segments _ _ _ _ _ _ _ _)

elided_len : (head tail segments : List ℕ) → length head + length tail < 8
    → segments ≡ head ++ replicate (8 - length head - length tail) 0 ++ tail → length segments ≡ 8
elided_len head tail segments room is =
    let zeros = replicate (8 - length head - length tail) 0 in
    let whole : length segments ≡ length (head ++ zeros ++ tail) = ap length is in
    let ends : length (head ++ zeros ++ tail) ≡ length (head ++ zeros) + length tail = length-append (head ++ zeros) tail in
    let front : length (head ++ zeros) ≡ length head + length zeros = length-append head zeros in
    let middle : length zeros ≡ 8 - length head - length tail = length-replicate _ _ in
    omega (arith, whole, ends, front, middle)

-- an IPv6 text writes eight segments
segments_len : (text segments : List ℕ) → IsColonHex text segments → length segments ≡ 8
segments_len text segments written = elim written [
  | inl whole ↦ whole.1
  | inr elided ↦ elided_len elided.head elided.tail segments elided.room elided.value
]

-- the number of an IPv6 address
v6_number : (text : List ℕ) (a : Ipv6Addr) → IsIpv6Text text a → ipv6_bits a ≡ number_of (2 ^ 16) (ipv6_segments a)
unfolding ipv6_bits
v6_number text a written = eight_segments (ipv6_segments a) (segments_len text (ipv6_segments a) written)

-- what `parse_ascii` gives is what the text writes
pub v6_parsed : (text : List ℕ) (a : Ipv6Addr) (number : ℕ) → IsIpv6Text text a → number ≡ ipv6_bits a → IsV6Text text number
v6_parsed text a number written is =
    record { segments = ipv6_segments a; written = written; value = is ∙ v6_number text a written }

-- where it fails the text writes no IPv6 address
pub v6_none : (text : List ℕ) → ((a : Ipv6Addr) → ¬ (IsIpv6Text text a)) → (number : ℕ) → ¬ (IsV6Text text number)
v6_none text none number text_is = none (record { segments = text_is.segments }) text_is.written
