-- What is kept of the entries of a list: the keys of addresses, domains and texts, and the ranges of networks.
use Rattle.std.specs.Prelude.{◌≤◌, ℕ, ◌+◌, ◌-◌, Bool, List, [], ◌∷◌, ◌++◌, length, Option, None, Some}
use Rattle.std.specs.List.{list_any}
use Rattle.std.specs.Str.{str_to_ascii_lowercase}
use Rattle.milter_address.specs.Address.{canonical_address}
use Rattle.milter_address.specs.Domain.{canonical_domain}
use Rattle.milter_address.specs.declared.ip_address.Address.{Address}
use Rattle.milter_address.specs.declared.ip_address.Address.TheVariants.{V4, V6}
use Rattle.milter_address.specs.ReadTexts.{address_in, network_in}
use Rattle.milter_lists.specs.Entries.{bytes_of}
use Rattle.milter_lists.specs.declared.text_set_builder.TheConstants.{BYTES_MAX, ENTRIES_MAX}
use Rattle.milter_lists.specs.declared.number_range.NumberRange.{NumberRange}
use Rattle.milter_lists.specs.declared.list_kind.ListKind.{ListKind}
use Rattle.milter_lists.specs.declared.list_kind.ListKind.TheVariants.{Addresses, Domains, Networks, Texts}
use Rattle.milter_lists.specs.ListKeys.{dot_suffixes, is_key}
use Rattle.milter_lists.specs.NetworkRanges.{have_address, range_of}

pub record Collected : Type 0 where
  pub keys : List (List ℕ)
  pub v4 : List NumberRange
  pub v6 : List NumberRange

abbrev pub nothing : Collected
nothing = record { keys = []; v4 = []; v6 = [] }

abbrev pub joined : Collected → Collected → Collected
joined a b = record { keys = a.keys ++ b.keys; v4 = a.v4 ++ b.v4; v6 = a.v6 ++ b.v6 }

-- ---- of entries

abbrev pub of_key : List ℕ → Collected
of_key key = record { keys = key ∷ []; v4 = []; v6 = [] }

abbrev pub of_network : Option (Address × ℕ) → Collected
of_network None = nothing
of_network (Some (V4 number, prefix)) = record { keys = []; v4 = range_of number (32 - prefix) ∷ []; v6 = [] }
of_network (Some (V6 number, prefix)) = record { keys = []; v4 = []; v6 = range_of number (128 - prefix) ∷ [] }

abbrev pub of_entry : ListKind → List ℕ → Collected
of_entry Addresses entry = of_key (canonical_address entry)
of_entry Domains entry = of_key (canonical_domain entry)
of_entry Networks entry = of_network (network_in entry)
of_entry Texts entry = of_key (str_to_ascii_lowercase entry)

abbrev pub collected : ListKind → List (List ℕ) → Collected
collected kind [] = nothing
collected kind (entry ∷ entries) = joined (of_entry kind entry) (collected kind entries)

-- ---- how many entries it is of, and a search

abbrev pub len_by : ListKind → Collected → ℕ
len_by Networks c = length c.v4 + length c.v6
len_by kind c = length c.keys

-- some entry of it has the value
abbrev pub has : ListKind → Collected → List ℕ → Bool
has Addresses c value = is_key c.keys value
has Domains c value = list_any (is_key c.keys) (canonical_domain value ∷ dot_suffixes (canonical_domain value))
has Networks c value = have_address c.v4 c.v6 (address_in value)
has Texts c value = is_key c.keys (str_to_ascii_lowercase value)

-- ---- limits

pub record IsWithin (c : Collected) : Type 0 where
  pub few_keys : length c.keys ≤ ENTRIES_MAX
  pub few_ranges : length c.v4 + length c.v6 ≤ ENTRIES_MAX
  pub short : bytes_of c.keys ≤ BYTES_MAX
