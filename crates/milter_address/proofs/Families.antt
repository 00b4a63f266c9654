-- A text writes addresses of one family alone.
use Rattle.std.proofs.Common.{◌≡◌, ℕ, zero, suc, ◌<◌, ◌^◌, false, List, [], ◌∷◌, length, take, get_or, refl, arith, sym, ◌∙◌, ap, subst, inl, inr}
use Rattle.std.specs.Prelude.{◌==◌}
use Rattle.std.specs.Char.{to_ascii_lowercase}
use Rattle.std.specs.List.{All, before_first}
use Rattle.std.specs.Net.Grammar.{IsDotted}
use Rattle.std.proofs.Math.Seq.{take-length}
use Rattle.std.proofs.lemmas.Grind.{common_steps}
use Rattle.std.proofs.lemmas.List.Sums.{position_or_len_is}
use Rattle.std.proofs.NetLemmas.Alphabet.{IsDigitOrDot, All-ipv4_text}
use Rattle.std.proofs.NetLemmas.Ipv6.{IsDotted-not_colon_hex}
use Rattle.std.proofs.NetLemmas.Theorems.{IsIpv4Text_unique, IsIpv6Text_unique}
use Rattle.std.specs.Net.Addr.{ipv4_octets, ipv6_segments}
use Rattle.std.specs.declared.net.ipv4_addr.Ipv4Addr.{Ipv4Addr}
use Rattle.std.specs.declared.net.ipv6_addr.Ipv6Addr.{Ipv6Addr}
use Rattle.milter_address.specs.declared.ip_address.Address.{Address}
use Rattle.milter_address.specs.declared.ip_address.Address.TheVariants.{V4, V6}
use Rattle.milter_address.specs.Addresses.{IsV6Text, IsZonedText, IsAddressText, is_percent, after_tag, bits_of, number_of}

octets_fit : (a b c d : ℕ) → a < 256 → b < 256 → c < 256 → d < 256
    → (k : ℕ) → get_or (a ∷ b ∷ c ∷ d ∷ []) k 0 < 2 ^ 8
octets_fit a b c d p q r s zero = p
octets_fit a b c d p q r s (suc zero) = q
octets_fit a b c d p q r s (suc (suc zero)) = r
octets_fit a b c d p q r s (suc (suc (suc zero))) = s
octets_fit a b c d p q r s (suc (suc (suc (suc k)))) = omega arith

-- the bytes of an IPv4 text
dotted_bytes : (text octets : List ℕ) → IsDotted text octets → All IsDigitOrDot text
dotted_bytes text octets dotted =
    let P : List ℕ → Type 0 = λ t. All IsDigitOrDot t in
    let o = dotted.a ∷ dotted.b ∷ dotted.c ∷ dotted.d ∷ [] in
    subst P (sym dotted.spelled)
    (All-ipv4_text o (octets_fit _ _ _ _ dotted.fit.0 dotted.fit.1 dotted.fit.2 dotted.fit.3))

no_percent : (c : ℕ) → IsDigitOrDot c → is_percent c ≡ false
no_percent c h = elim h [
  | inl digit ↦ grind (arith, common_steps)
  | inr dot ↦ grind (arith, common_steps)
]

no_i : (c : ℕ) → IsDigitOrDot c → (to_ascii_lowercase c == 105) ≡ false
no_i c h = elim h [
  | inl digit ↦ grind (arith, common_steps)
  | inr dot ↦ grind (arith, common_steps)
]

-- an IPv4 text has no zone
without_zone : (text : List ℕ) → All IsDigitOrDot text → before_first is_percent text ≡ text
without_zone text all =
    let len = position_or_len_is is_percent text (length text) 0 (omega arith)
    (λ k below. no_percent _ (all k 0 below)) (λ below. absurd (omega arith)) in
    ap (λ n. take n text) len ∙ take-length text

-- nor a tag
without_tag : (text : List ℕ) → All IsDigitOrDot text → after_tag text ≡ text
without_tag [] all = refl
without_tag (x ∷ text) all =
    let first : (to_ascii_lowercase x == 105) ≡ false = no_i x (all 0 0 (omega arith)) in
    rw first refl

-- an IPv4 text writes no IPv6 address
pub dotted_not_zoned : (text octets : List ℕ) (number : ℕ) → IsDotted text octets → ¬ (IsZonedText (after_tag text) number)
dotted_not_zoned text octets number dotted zoned =
    let all = dotted_bytes text octets dotted in
    let P : List ℕ → Type 0 = λ t. IsV6Text (before_first is_percent t) number in
    let Q : List ℕ → Type 0 = λ t. IsV6Text t number in
    let plain = subst Q (without_zone text all) (subst P (without_tag text all) zoned.address) in
    IsDotted-not_colon_hex text octets plain.segments dotted plain.written

-- a text writes one address at most
pub same_address : (text : List ℕ) (a b : Address) → IsAddressText text a → IsAddressText text b → a ≡ b
same_address text (V4 a) (V4 b) h k =
    let P : Ipv4Addr = record { octets = h.octets } in
    let Q : Ipv4Addr = record { octets = k.octets } in
    let same = ap ipv4_octets (IsIpv4Text_unique text P Q h.written k.written) in
    ap V4 (h.value ∙ ap (number_of (2 ^ 8)) same ∙ sym k.value)
same_address text (V4 a) (V6 b) h k = absurd (dotted_not_zoned text h.octets b h.written k)
same_address text (V6 a) (V4 b) h k = absurd (dotted_not_zoned text k.octets a k.written h)
same_address text (V6 a) (V6 b) h k =
    let P : Ipv6Addr = record { segments = h.address.segments } in
    let Q : Ipv6Addr = record { segments = k.address.segments } in
    let same = ap ipv6_segments (IsIpv6Text_unique _ P Q h.address.written k.address.written) in
    ap V6 (h.address.value ∙ ap (number_of (2 ^ 16)) same ∙ sym k.address.value)

-- so two addresses that a text writes have as many bits
pub same_family : (text : List ℕ) (a b : Address) → IsAddressText text a → IsAddressText text b → bits_of a ≡ bits_of b
same_family text a b h k = ap bits_of (same_address text a b h k)
