-- What is kept of entries, and how many they are.
use Rattle.std.proofs.Common.{◌≡◌, ℕ, ◌+◌, ◌≤◌, true, List, [], ◌∷◌, ◌++◌, length, refl, arith, ◌∙◌, ap, Option, Some, None, append_assoc, length-append}
use Rattle.std.specs.Prelude.{is_some}
use Rattle.std.proofs.lemmas.Bool.{and_parts}
use Rattle.std.proofs.lemmas.List.{append-nil}
use Rattle.milter_address.specs.declared.ip_address.Address.{Address}
use Rattle.milter_address.specs.declared.ip_address.Address.TheVariants.{V4, V6}
use Rattle.milter_address.specs.ReadTexts.{network_in}
use Rattle.milter_lists.specs.declared.list_kind.ListKind.{ListKind}
use Rattle.milter_lists.specs.declared.list_kind.ListKind.TheVariants.{Addresses, Domains, Networks, Texts}
use Rattle.milter_lists.specs.Collected.{Collected, IsWithin, collected, joined, len_by, nothing, of_entry, of_network}
use Rattle.milter_lists.specs.ListFaults.{AreSmall, are_good}
use Rattle.milter_lists.specs.Listed.{is_entry}

joined_assoc : (a b c : Collected) → joined a (joined b c) ≡ joined (joined a b) c
joined_assoc a b c = let k = append_assoc a.keys b.keys c.keys in let v = append_assoc a.v4 b.v4 c.v4 in let w = append_assoc a.v6 b.v6 c.v6 in cc

joined_nothing : (c : Collected) → joined c nothing ≡ joined nothing c
joined_nothing c = let k = append-nil c.keys in let v = append-nil c.v4 in let w = append-nil c.v6 in cc

-- one entry more
pub collected_more : (kind : ListKind) (entries : List (List ℕ)) (entry : List ℕ)
    → collected kind (entries ++ entry ∷ []) ≡ joined (collected kind entries) (of_entry kind entry)
collected_more kind [] entry = joined_nothing (of_entry kind entry)
collected_more kind (first ∷ entries) entry =
    ap (joined (of_entry kind first)) (collected_more kind entries entry)
    ∙ joined_assoc (of_entry kind first) (collected kind entries) (of_entry kind entry)

-- ---- how many

-- as many as are kept, or fewer
pub record IsFew (c : Collected) (n : ℕ) : Type 0 where
  pub keys : length c.keys ≤ n
  pub ranges : length c.v4 + length c.v6 ≤ n

few_of_network : (network : Option (Address × ℕ)) → IsFew (of_network network) 1
few_of_network None = record { keys = omega arith; ranges = omega arith }
few_of_network (Some (V4 n, p)) = record { keys = omega arith; ranges = omega arith }
few_of_network (Some (V6 n, p)) = record { keys = omega arith; ranges = omega arith }

few_of_entry : (kind : ListKind) (entry : List ℕ) → IsFew (of_entry kind entry) 1
few_of_entry Addresses entry = record { keys = omega arith; ranges = omega arith }
few_of_entry Domains entry = record { keys = omega arith; ranges = omega arith }
few_of_entry Networks entry = few_of_network (network_in entry)
few_of_entry Texts entry = record { keys = omega arith; ranges = omega arith }

few_joined : (a b : Collected) (m n : ℕ) → IsFew a m → IsFew b n → IsFew (joined a b) (m + n)
few_joined a b m n p q =
    let k = length-append a.keys b.keys in
    let v = length-append a.v4 b.v4 in
    let w = length-append a.v6 b.v6 in
    record { keys = omega (arith, k, p.keys, q.keys); ranges = omega (arith, v, w, p.ranges, q.ranges) }

pub few_of : (kind : ListKind) (entries : List (List ℕ)) → IsFew (collected kind entries) (length entries)
few_of kind [] = record { keys = omega arith; ranges = omega arith }
few_of kind (entry ∷ entries) =
    let both = few_joined (of_entry kind entry) (collected kind entries) 1 (length entries) (few_of_entry kind entry) (few_of kind entries) in
    record { keys = omega (arith, both.keys); ranges = omega (arith, both.ranges) }

pub within_small : (kind : ListKind) (entries : List (List ℕ)) → AreSmall kind entries → IsWithin (collected kind entries)
within_small kind entries small =
    let few = few_of kind entries in
    record {
      few_keys = omega (arith, few.keys, small.few);
      few_ranges = omega (arith, few.ranges, small.few);
      short = small.short;
    }

len_joined : (kind : ListKind) (a b : Collected) → len_by kind (joined a b) ≡ len_by kind a + len_by kind b
len_joined Addresses a b = length-append a.keys b.keys
len_joined Domains a b = length-append a.keys b.keys
len_joined Networks a b = let v = length-append a.v4 b.v4 in let w = length-append a.v6 b.v6 in omega (arith, v, w)
len_joined Texts a b = length-append a.keys b.keys

len_of_network : (network : Option (Address × ℕ)) → is_some network ≡ true → len_by Networks (of_network network) ≡ 1
len_of_network None e = absurd cc
len_of_network (Some (V4 n, p)) e = refl
len_of_network (Some (V6 n, p)) e = refl

len_of_entry : (kind : ListKind) (entry : List ℕ) → is_entry kind entry ≡ true → len_by kind (of_entry kind entry) ≡ 1
len_of_entry Addresses entry e = refl
len_of_entry Domains entry e = refl
len_of_entry Networks entry e = len_of_network (network_in entry) e
len_of_entry Texts entry e = refl

none_kept : (kind : ListKind) → len_by kind nothing ≡ 0
none_kept Addresses = refl
none_kept Domains = refl
none_kept Networks = refl
none_kept Texts = refl

pub collected_len : (kind : ListKind) (entries : List (List ℕ)) → are_good kind entries ≡ true
    → len_by kind (collected kind entries) ≡ length entries
collected_len kind [] good = none_kept kind
collected_len kind (entry ∷ entries) good =
    let parts = and_parts (is_entry kind entry) (are_good kind entries) good in
    let one = len_of_entry kind entry parts.0 in
    let rest = collected_len kind entries parts.1 in
    let sum = len_joined kind (of_entry kind entry) (collected kind entries) in
    omega (arith, one, rest, sum)

few_by : (kind : ListKind) (c : Collected) → IsWithin c → len_by kind c ≤ 1000000
few_by Addresses c within = omega (arith, within.few_keys)
few_by Domains c within = omega (arith, within.few_keys)
few_by Networks c within = omega (arith, within.few_ranges)
few_by Texts c within = omega (arith, within.few_keys)

pub small_within : (kind : ListKind) (entries : List (List ℕ)) → are_good kind entries ≡ true
    → IsWithin (collected kind entries) → AreSmall kind entries
small_within kind entries good within =
    let len = collected_len kind entries good in
    let few = few_by kind (collected kind entries) within in
    record { few = omega (arith, len, few); short = within.short }
