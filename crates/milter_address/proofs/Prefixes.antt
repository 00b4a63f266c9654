-- Networks whose text has no prefix.
use Rattle.std.proofs.Common.{◌≡◌, ℕ, List, sym, subst, drop}
use Rattle.std.specs.List.{before_first, position_or_len}
use Rattle.milter_address.specs.declared.ip_address.Address.{Address}
use Rattle.milter_address.specs.Addresses.{IsAddressText, is_slash, bits_of}
use Rattle.milter_address.specs.Networks.{IsNetworkText, IsPrefixText}
use Rattle.milter_address.proofs.Families.{same_family}

-- without a prefix for the address that its beginning writes, a text writes no network
pub none_prefixed : (text front rest : List ℕ) (address : Address)
    → front ≡ before_first is_slash text → rest ≡ drop (position_or_len is_slash text) text
    → IsAddressText front address
    → ((prefix : ℕ) → ¬ (IsPrefixText rest (bits_of address) prefix))
    → (other : Address) (prefix : ℕ) → ¬ (IsNetworkText text other prefix)
none_prefixed text front rest address front_is rest_is written none other prefix network =
    let A : List ℕ → Type 0 = λ t. IsAddressText t other in
    let same = same_family front address other written (subst A (sym front_is) network.address_text) in
    let R : List ℕ → Type 0 = λ t. IsPrefixText t (bits_of other) prefix in
    let B : ℕ → Type 0 = λ bits. IsPrefixText rest bits prefix in
    none prefix (subst B (sym same) (subst R (sym rest_is) network.prefix_text))
