-- Addresses with a tag and a zone.
use Rattle.std.proofs.Common.{◌≡◌, ℕ, List, sym, subst, IfNone}
use Rattle.std.specs.Prelude.{Option, Some, None}
use Rattle.std.specs.List.{before_first}
use Rattle.milter_address.specs.declared.ip_address.Address.{Address}
use Rattle.milter_address.specs.declared.ip_address.Address.TheVariants.{V4, V6}
use Rattle.milter_address.specs.Addresses.{IsV4Text, IsV6Text, IsZonedText, IsAddressText, is_percent, after_tag}

-- without an address before the zone there is none with it
pub none_zoned : (text address : List ℕ) (answer : Option ℕ) → address ≡ before_first is_percent text
    → IfNone answer ((number : ℕ) → ¬ (IsV6Text address number))
    → IfNone answer ((number : ℕ) → ¬ (IsZonedText text number))
none_zoned text address None is none =
    λ number zoned. let P : List ℕ → Type 0 = λ t. IsV6Text t number in
    none number (subst P (sym is) zoned.address)
none_zoned text address (Some x) is none = tt

-- a text of neither family writes no address
pub none_of_both : (text tagless : List ℕ) → tagless ≡ after_tag text
    → ((number : ℕ) → ¬ (IsV4Text text number)) → ((number : ℕ) → ¬ (IsZonedText tagless number))
    → (address : Address) → ¬ (IsAddressText text address)
none_of_both text tagless is no_v4 no_v6 (V4 number) written = no_v4 number written
none_of_both text tagless is no_v4 no_v6 (V6 number) written =
    let P : List ℕ → Type 0 = λ t. IsZonedText t number in
    no_v6 number (subst P (sym is) written)
