-- An address in the ranges of networks.
use Rattle.std.proofs.Common.{◌≡◌, ℕ, ◌-◌, ◌/◌, ◌^◌, Bool, false, List, [], ◌∷◌, ◌++◌, refl, sym, ◌∙◌, ap, Option, Some, None}
use Rattle.std.specs.Prelude.{◌==◌, ◌||◌}
use Rattle.std.specs.List.{list_any}
use Rattle.std.proofs.lemmas.List.Folds.{list_any-append}
use Rattle.milter_address.specs.declared.ip_address.Address.{Address}
use Rattle.milter_address.specs.declared.ip_address.Address.TheVariants.{V4, V6}
use Rattle.milter_address.specs.Addresses.{ipv4_mapped}
use Rattle.milter_address.specs.Networks.{mapped_shares_prefix, shares_prefix}
use Rattle.milter_address.specs.ReadTexts.{address_in, holds_address, is_text_within, network_in}
use Rattle.milter_lists.specs.declared.number_range.NumberRange.{NumberRange}
use Rattle.milter_lists.specs.Ranges.{is_in}
use Rattle.milter_lists.specs.Collected.{collected, of_network}
use Rattle.milter_lists.specs.declared.list_kind.ListKind.TheVariants.{Networks}
use Rattle.milter_lists.specs.NetworkRanges.{have_address, is_in_ranges, mapped_is_in_ranges, range_of}
use Rattle.milter_lists.proofs.KeySets.{any_congr, any_none, any_or, or_false}
use Rattle.milter_lists.proofs.NetworkBlocks.{in_block}

-- ---- one network

-- the address has the first bits of the network
abbrev shares : Address → Option (Address × ℕ) → Bool
shares a None = false
shares a (Some network) = shares_prefix network.1 network.0 a

one_range : (n x bits : ℕ) → list_any (is_in x) (range_of n bits ∷ []) ≡ (n / 2 ^ bits == x / 2 ^ bits)
one_range n x bits = or_false (is_in x (range_of n bits)) ∙ in_block n x bits

one_shares : (a : Address) (network : Option (Address × ℕ))
    → is_in_ranges (of_network network).v4 (of_network network).v6 a ≡ shares a network
one_shares (V4 x) None = refl
one_shares (V6 x) None = refl
one_shares (V4 x) (Some (V4 n, p)) = one_range n x (32 - p)
one_shares (V6 x) (Some (V6 n, p)) = one_range n x (128 - p)
one_shares (V4 x) (Some (V6 n, p)) = refl
one_shares (V6 x) (Some (V4 n, p)) = refl

-- ---- all networks

both_have : (a : Address) (v4 w4 v6 w6 : List NumberRange)
    → is_in_ranges (v4 ++ w4) (v6 ++ w6) a ≡ (is_in_ranges v4 v6 a || is_in_ranges w4 w6 a)
both_have (V4 x) v4 w4 v6 w6 = list_any-append (is_in x) v4 w4
both_have (V6 x) v4 w4 v6 w6 = list_any-append (is_in x) v6 w6

none_has : (a : Address) → is_in_ranges [] [] a ≡ false
none_has (V4 x) = refl
none_has (V6 x) = refl

own_found : (a : Address) (entries : List (List ℕ))
    → is_in_ranges (collected Networks entries).v4 (collected Networks entries).v6 a
    ≡ list_any (λ entry. shares a (network_in entry)) entries
own_found a [] = none_has a
own_found a (entry ∷ entries) =
    both_have a (of_network (network_in entry)).v4 (collected Networks entries).v4
    (of_network (network_in entry)).v6 (collected Networks entries).v6
    ∙ ap (λ b. b || is_in_ranges (collected Networks entries).v4 (collected Networks entries).v6 a) (one_shares a (network_in entry))
    ∙ ap (λ b. shares a (network_in entry) || b) (own_found a entries)

abbrev mapped_shares : Option Address → Option (Address × ℕ) → Bool
mapped_shares None network = false
mapped_shares (Some a) network = shares a network

mapped_found : (mapped : Option Address) (entries : List (List ℕ))
    → mapped_is_in_ranges (collected Networks entries).v4 (collected Networks entries).v6 mapped
    ≡ list_any (λ entry. mapped_shares mapped (network_in entry)) entries
mapped_found None entries = sym (any_none entries)
mapped_found (Some a) entries = own_found a entries

-- ---- texts

mapped_both : (p : ℕ) (n : Address) (mapped : Option Address) → mapped_shares mapped (Some (n, p)) ≡ mapped_shares_prefix p n mapped
mapped_both p n None = refl
mapped_both p n (Some a) = refl

both_hold : (a : Address) (network : Option (Address × ℕ))
    → (shares a network || mapped_shares (ipv4_mapped a) network) ≡ holds_address network (Some a)
both_hold a None = none (ipv4_mapped a)
  where
    none : (mapped : Option Address) → mapped_shares mapped None ≡ false
    none None = refl
    none (Some b) = refl
both_hold a (Some (n, p)) = ap (λ b. shares_prefix p n a || b) (mapped_both p n (ipv4_mapped a))

none_holds : (network : Option (Address × ℕ)) → holds_address network None ≡ false
none_holds None = refl
none_holds (Some network) = refl

address_found : (address : Option Address) (entries : List (List ℕ))
    → have_address (collected Networks entries).v4 (collected Networks entries).v6 address
    ≡ list_any (λ entry. holds_address (network_in entry) address) entries
address_found None entries =
    sym (any_congr (λ entry. holds_address (network_in entry) None) (λ entry. false) entries (λ entry. none_holds (network_in entry))
    ∙ any_none entries)
address_found (Some a) entries =
    ap (λ b. b || mapped_is_in_ranges (collected Networks entries).v4 (collected Networks entries).v6 (ipv4_mapped a)) (own_found a entries)
    ∙ ap (λ b. list_any (λ entry. shares a (network_in entry)) entries || b) (mapped_found (ipv4_mapped a) entries)
    ∙ sym (any_or (λ entry. shares a (network_in entry)) (λ entry. mapped_shares (ipv4_mapped a) (network_in entry)) entries)
    ∙ any_congr (λ entry. shares a (network_in entry) || mapped_shares (ipv4_mapped a) (network_in entry))
    (λ entry. holds_address (network_in entry) (Some a)) entries (λ entry. both_hold a (network_in entry))

-- the ranges of networks have the address of a text exactly where it is within one of them
pub text_found : (value : List ℕ) (entries : List (List ℕ))
    → have_address (collected Networks entries).v4 (collected Networks entries).v6 (address_in value)
    ≡ list_any (λ entry. is_text_within entry value) entries
text_found value entries = address_found (address_in value) entries
