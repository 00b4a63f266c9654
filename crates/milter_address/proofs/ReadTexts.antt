-- What is read of a text is what it writes, and the other way round.
use Rattle.std.proofs.Common.{◌≡◌, ℕ, zero, suc, ◌-◌, ◌^◌, ◌<◌, ◌≤◌, Bool, true, false, List, [], ◌∷◌, ◌++◌, length, drop, get_or, Option, Some, None, refl, arith, sym, ◌∙◌, ap, subst, append-nil, lit≤, lit<, inl, inr}
use Rattle.std.specs.Prelude.{◌==◌, nat_le, option_map, option_and_then, if◌then◌else◌, decimal}
use Rattle.std.specs.Option.{option_map_or}
use Rattle.std.specs.List.{before_first, position_or_len}
use Rattle.std.specs.Str.Parse.{AllDigits, digits_value}
use Rattle.std.proofs.lemmas.Str.Parse.{IsNumeralModel}
use Rattle.std.proofs.lemmas.Fmt.{decimal-digits_value, decimal_digit, decimal_is_IsNumeral, first_decimal, length-decimal-le}
use Rattle.std.proofs.lemmas.Bool.{cases_lt, le-leb, leb-true, ne_eqb}
use Rattle.std.specs.Net.Grammar.{IsColonHex, IsDotted}
use Rattle.std.specs.Net.Reader.{Read, read_ipv4, read_ipv6, read_octet, whole_value}
use Rattle.std.proofs.NetLemmas.Ipv4.{read_ipv4_complete, read_ipv4_sound, read_octet_complete, read_octet_sound}
use Rattle.std.proofs.NetLemmas.Ipv6.{EndsGroups-nil, read_ipv6_complete, read_ipv6_sound}
use Rattle.milter_address.specs.declared.ip_address.Address.{Address}
use Rattle.milter_address.specs.declared.ip_address.Address.TheVariants.{V4, V6}
use Rattle.milter_address.specs.Addresses.{IsAddressText, IsV4Text, IsV6Text, IsZonedText, after_tag, bits_of, is_percent, is_slash, is_zone, number_of}
use Rattle.milter_address.specs.Networks.{IsDecimal, IsNetworkText, IsPrefixText}
use Rattle.milter_address.specs.ReadTexts.{address_in, if_at_most, network_in, or_else, prefix_in, v4_in, v6_in, with_prefix, zoned_in}
use Rattle.milter_address.proofs.Families.{dotted_not_zoned}

-- ---- a value of a whole text

whole_is : {A : Type 0} (r : Read A) (value : A) → r ≡ Some (value, []) → whole_value r ≡ Some value
whole_is r value is = ap whole_value is

no_rest : {A : Type 0} (value : A) (rest : List ℕ) (found : A) → whole_value (Some (value, rest)) ≡ Some found
    → ◌≡◌ {A = Read A} (Some (value, rest)) (Some (found, []))
no_rest value [] found is = cc
no_rest {A} value (byte ∷ rest) found is =
    let apart : (suc (length rest) == 0) ≡ false = ne_eqb (suc (length rest)) 0 (λ e. omega (arith, e)) in
    let wrong : ◌≡◌ {A = Option A} None (Some found) = sym (rw apart refl) ∙ is in
    absurd cc

is_whole : {A : Type 0} (r : Read A) (value : A) → whole_value r ≡ Some value → r ≡ Some (value, [])
is_whole None value is = absurd cc
is_whole (Some (x, rest)) value is = no_rest x rest value is

-- ---- IPv4

pub v4_complete : (text : List ℕ) (number : ℕ) → IsV4Text text number → v4_in text ≡ Some number
v4_complete text number written =
    let read : read_ipv4 text ≡ Some (written.octets, []) =
    subst (λ t. read_ipv4 t ≡ Some (written.octets, [])) (append-nil text) (read_ipv4_complete text written.octets [] written.written (lit≤ tt)) in
    ap (option_map (number_of (2 ^ 8))) (whole_is _ _ read) ∙ ap Some (sym written.value)

pub v4_sound : (text : List ℕ) (number : ℕ) → v4_in text ≡ Some number → IsV4Text text number
v4_sound text number is = go (whole_value (read_ipv4 text)) refl is
  where
    go : (r : Option (List ℕ)) → whole_value (read_ipv4 text) ≡ r → option_map (number_of (2 ^ 8)) r ≡ Some number
        → IsV4Text text number
    go None e is = absurd cc
    go (Some octets) e is =
        let (front, split, written) = read_ipv4_sound text octets [] (is_whole _ octets e) in
        record {
          octets = octets;
          written = subst (λ t. IsDotted t octets) (sym (split ∙ append-nil front)) written;
          value = cc;
        }

-- ---- IPv6

pub v6_complete : (text : List ℕ) (number : ℕ) → IsV6Text text number → v6_in text ≡ Some number
v6_complete text number written =
    let read : read_ipv6 text ≡ Some (written.segments, []) =
    subst (λ t. read_ipv6 t ≡ Some (written.segments, [])) (append-nil text)
    (read_ipv6_complete text written.segments [] written.written EndsGroups-nil) in
    ap (option_map (number_of (2 ^ 16))) (whole_is _ _ read) ∙ ap Some (sym written.value)

pub v6_sound : (text : List ℕ) (number : ℕ) → v6_in text ≡ Some number → IsV6Text text number
v6_sound text number is = go (whole_value (read_ipv6 text)) refl is
  where
    go : (r : Option (List ℕ)) → whole_value (read_ipv6 text) ≡ r → option_map (number_of (2 ^ 16)) r ≡ Some number
        → IsV6Text text number
    go None e is = absurd cc
    go (Some segments) e is =
        let (front, split, written) = read_ipv6_sound text segments [] (is_whole _ segments e) in
        record {
          segments = segments;
          written = subst (λ t. IsColonHex t segments) (sym (split ∙ append-nil front)) written;
          value = cc;
        }

pub zoned_complete : (text : List ℕ) (number : ℕ) → IsZonedText text number → zoned_in text ≡ Some number
zoned_complete text number written = rw written.zone (v6_complete _ number written.address)

pub zoned_sound : (text : List ℕ) (number : ℕ) → zoned_in text ≡ Some number → IsZonedText text number
zoned_sound text number is = go (is_zone (drop (position_or_len is_percent text) text)) refl is
  where
    go : (zone : Bool) → is_zone (drop (position_or_len is_percent text) text) ≡ zone
        → (if zone then v6_in (before_first is_percent text) else None) ≡ Some number → IsZonedText text number
    go true e is = record { zone = e; address = v6_sound _ number is }
    go false e is = absurd cc

-- ---- addresses

pub address_complete : (text : List ℕ) (address : Address) → IsAddressText text address → address_in text ≡ Some address
address_complete text (V4 number) written = ap (λ v4. or_else v4 (zoned_in (after_tag text))) (v4_complete text number written)
address_complete text (V6 number) written = go (v4_in text) refl
  where
    go : (v4 : Option ℕ) → v4_in text ≡ v4 → or_else v4 (zoned_in (after_tag text)) ≡ Some (V6 number)
    go None e = ap (option_map V6) (zoned_complete (after_tag text) number written)
    go (Some other) e =
        let dotted = v4_sound text other e in
        absurd (dotted_not_zoned text dotted.octets number dotted.written written)

pub address_sound : (text : List ℕ) (address : Address) → address_in text ≡ Some address → IsAddressText text address
address_sound text address is = go (v4_in text) (zoned_in (after_tag text)) refl refl is
  where
    go : (v4 v6 : Option ℕ) → v4_in text ≡ v4 → zoned_in (after_tag text) ≡ v6 → or_else v4 v6 ≡ Some address
        → IsAddressText text address
    go (Some number) v6 e f is = let same : V4 number ≡ address = cc in subst (λ a. IsAddressText text a) same (v4_sound text number e)
    go None (Some number) e f is = let same : V6 number ≡ address = cc in subst (λ a. IsAddressText text a) same (zoned_sound (after_tag text) number f)
    go None None e f is = absurd cc

-- ---- networks

numerals : IsNumeralModel (AllDigits 10) (digits_value 10)
numerals = record { to = λ ds d. d; from = λ ds d. d; same = λ ds d. refl }

-- at most three digits without a superfluous zero are an octet, where they are small
decimal_complete : (digits : List ℕ) (prefix : ℕ) → IsDecimal digits prefix → prefix < 256
    → whole_value (read_octet digits) ≡ Some prefix
decimal_complete digits prefix is small =
    let value : digits_value 10 digits ≡ prefix = is.value.1 in
    let again = decimal-digits_value numerals digits is.value.0.1 is.value.0.0 (λ z. is.exact z) (omega (arith, value)) in
    let same : decimal prefix ≡ digits = ap decimal (sym value) ∙ again in
    let read : read_octet digits ≡ Some (prefix, []) =
    subst (λ t. read_octet t ≡ Some (prefix, [])) (append-nil (decimal prefix) ∙ same)
    (read_octet_complete prefix [] small (lit≤ tt)) in
    whole_is _ _ read

own_decimal : (prefix : ℕ) → prefix < 256 → IsDecimal (decimal prefix) prefix
own_decimal prefix small =
    record {
      value = decimal_is_IsNumeral prefix (omega arith);
      short = length-decimal-le 3 prefix (omega arith) (omega arith) (omega arith);
      exact = λ zero. elim (cases_lt prefix 10) [
        | inl one ↦ ap length (decimal_digit prefix one)
        | inr more ↦ absurd (omega (arith, zero, first_decimal prefix (omega arith) (omega arith)))
      ];
    }

decimal_sound : (digits : List ℕ) (prefix : ℕ) → whole_value (read_octet digits) ≡ Some prefix → IsDecimal digits prefix
decimal_sound digits prefix is =
    let (small, split, stop) = read_octet_sound digits [] prefix (is_whole _ prefix is) in
    subst (λ t. IsDecimal t prefix) (sym (split ∙ append-nil (decimal prefix))) (own_decimal prefix small)

few_bits : (address : Address) → bits_of address < 256
few_bits (V4 number) = lit< tt
few_bits (V6 number) = lit< tt

if_within : (bits prefix : ℕ) → prefix ≤ bits → if_at_most bits prefix ≡ Some prefix
if_within bits prefix within = rw (le-leb prefix bits within) refl

prefix_complete : (rest : List ℕ) (bits prefix : ℕ) → bits < 256 → IsPrefixText rest bits prefix
    → prefix_in rest bits ≡ Some prefix
prefix_complete [] bits prefix few is = ap Some (sym is)
prefix_complete (slash ∷ digits) bits prefix few is =
    rw (decimal_complete digits prefix is.0 (omega (arith, few, is.1))) (if_within bits prefix is.1)

prefix_sound : (rest : List ℕ) (bits prefix : ℕ) → prefix_in rest bits ≡ Some prefix → IsPrefixText rest bits prefix
prefix_sound [] bits prefix is = cc
prefix_sound (slash ∷ digits) bits prefix is = go (whole_value (read_octet digits)) refl is
  where
    at_most : (found : ℕ) → whole_value (read_octet digits) ≡ Some found → (within : Bool) → nat_le found bits ≡ within
        → (if within then Some found else None) ≡ Some prefix → IsDecimal digits prefix × (prefix ≤ bits)
    at_most found e true w is =
        let same : found ≡ prefix = cc in
        (subst (IsDecimal digits) same (decimal_sound digits found e), subst (λ p. p ≤ bits) same (leb-true found bits w))
    at_most found e false w is = absurd cc

    go : (found : Option ℕ) → whole_value (read_octet digits) ≡ found → option_and_then (if_at_most bits) found ≡ Some prefix
        → IsDecimal digits prefix × (prefix ≤ bits)
    go None e is = absurd cc
    go (Some found) e is = at_most found e (nat_le found bits) refl is

pub network_complete : (text : List ℕ) (address : Address) (prefix : ℕ) → IsNetworkText text address prefix
    → network_in text ≡ Some (address, prefix)
network_complete text address prefix written =
    ap (option_and_then (with_prefix (drop (position_or_len is_slash text) text))) (address_complete _ address written.address_text)
    ∙ ap (option_map (λ p. (address, p))) (prefix_complete _ (bits_of address) prefix (few_bits address) written.prefix_text)

pub network_sound : (text : List ℕ) (address : Address) (prefix : ℕ) → network_in text ≡ Some (address, prefix)
    → IsNetworkText text address prefix
network_sound text address prefix is = go (address_in (before_first is_slash text)) refl is
  where
    rest : List ℕ
    rest = drop (position_or_len is_slash text) text

    fixed : (found : Address) → address_in (before_first is_slash text) ≡ Some found → (p : Option ℕ)
        → prefix_in rest (bits_of found) ≡ p → option_map {U = Address × ℕ} (λ n. (found, n)) p ≡ Some (address, prefix)
        → IsNetworkText text address prefix
    fixed found e None f is = absurd cc
    fixed found e (Some n) f is =
        let same : found ≡ address = ap (λ (x : Option (Address × ℕ)). option_map_or (λ y. y.0) x found) is in
        let as_many : n ≡ prefix = ap (λ (x : Option (Address × ℕ)). option_map_or (λ y. y.1) x n) is in
        record {
          address_text = subst (λ a. IsAddressText (before_first is_slash text) a) same (address_sound _ found e);
          prefix_text = subst (λ a. IsPrefixText rest (bits_of a) prefix) same
              (subst (λ p. IsPrefixText rest (bits_of found) p) as_many (prefix_sound rest (bits_of found) n f));
        }

    go : (found : Option Address) → address_in (before_first is_slash text) ≡ found
        → option_and_then (with_prefix rest) found ≡ Some (address, prefix) → IsNetworkText text address prefix
    go None e is = absurd cc
    go (Some found) e is = fixed found e (prefix_in rest (bits_of found)) refl is

-- ---- what is parsed

pub address_none : (text : List ℕ) → ((address : Address) → ¬ (IsAddressText text address)) → None ≡ address_in text
address_none text none = go (address_in text) refl
  where
    go : (found : Option Address) → address_in text ≡ found → None ≡ found
    go None e = refl
    go (Some address) e = absurd (none address (address_sound text address e))

pub network_none : (text : List ℕ) → ((address : Address) (prefix : ℕ) → ¬ (IsNetworkText text address prefix))
    → None ≡ network_in text
network_none text none = go (network_in text) refl
  where
    go : (found : Option (Address × ℕ)) → network_in text ≡ found → None ≡ found
    go None e = refl
    go (Some (address, prefix)) e = absurd (none address prefix (network_sound text address prefix e))
