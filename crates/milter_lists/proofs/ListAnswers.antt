-- What lists have.
use Rattle.std.proofs.Common.{◌≡◌, ℕ, Bool, List, [], ◌∷◌, ap, refl, sym, ◌∙◌}
use Rattle.std.specs.List.{list_any}
use Rattle.std.specs.List.Sorted.{IsPermutation}
use Rattle.std.specs.Str.{bytes_eq, str_to_ascii_lowercase}
use Rattle.std.proofs.lemmas.List.Sorted.{length_permutation, list_any-IsPermutation}
use Rattle.milter_address.specs.Domain.{canonical_domain}
use Rattle.milter_lists.specs.declared.entries.Entries.{Entries}
use Rattle.milter_lists.specs.declared.list_kind.ListKind.{ListKind}
use Rattle.milter_lists.specs.declared.list_kind.ListKind.TheVariants.{Addresses, Domains, Networks, Texts}
use Rattle.milter_lists.specs.declared.text_list.TextList.{TextList}
use Rattle.milter_lists.specs.Collected.{Collected, collected, has, len_by}
use Rattle.milter_lists.specs.ListKeys.{dot_suffixes, is_key}
use Rattle.milter_lists.specs.ListValues.{collected_in, has_value, kind_in}
use Rattle.milter_lists.specs.Listed.{entry_has}
use Rattle.milter_lists.proofs.KeySets.{any_congr}
use Rattle.milter_lists.proofs.Lookups.{entries_found}

-- the answer of a search
pub has_answer : (list : TextList) (entries : Entries) (value : List ℕ) (found : Bool) → list.entries ≡ entries
    → found ≡ has (kind_in entries) (collected_in entries) value → found ≡ has_value list value
unfolding has_value
has_answer list entries value found is answer =
    answer ∙ ap (λ e. has (kind_in e) (collected_in e) value) (sym is)

-- a list of entries has what they have
pub has_entries : (kind : ListKind) (entries : List (List ℕ)) (c : Collected) (made : Entries) → kind_in made ≡ kind
    → ((value : List ℕ) → has kind (collected_in made) value ≡ has kind c value) → c ≡ collected kind entries
    → (value : List ℕ) → has_value (record { entries = made }) value ≡ list_any (entry_has kind value) entries
unfolding has_value
has_entries kind entries c made kind_is same is value =
    ap (λ k. has k (collected_in made) value) kind_is ∙ same value ∙ ap (λ d. has kind d value) is
    ∙ entries_found kind value entries

-- ---- keys in another order

pub permuted_len : (kind : ListKind) (c : Collected) (set : List (List ℕ)) → (kind ≡ Networks → ⊥)
    → IsPermutation c.keys set → len_by kind (record { keys = set; v4 = []; v6 = [] }) ≡ len_by kind c
permuted_len Addresses c set other order = length_permutation c.keys set order
permuted_len Domains c set other order = length_permutation c.keys set order
permuted_len Networks c set other order = absurd (other refl)
permuted_len Texts c set other order = length_permutation c.keys set order

permuted_key : (keys set : List (List ℕ)) (key : List ℕ) → IsPermutation keys set → is_key set key ≡ is_key keys key
permuted_key keys set key order = sym (list_any-IsPermutation (bytes_eq key) keys set order)

pub permuted_has : (kind : ListKind) (c : Collected) (set : List (List ℕ)) → (kind ≡ Networks → ⊥)
    → IsPermutation c.keys set → (value : List ℕ)
    → has kind (record { keys = set; v4 = []; v6 = [] }) value ≡ has kind c value
permuted_has Addresses c set other order value = permuted_key c.keys set value order
permuted_has Domains c set other order value =
    any_congr (is_key set) (is_key c.keys) (canonical_domain value ∷ dot_suffixes (canonical_domain value))
    (λ key. permuted_key c.keys set key order)
permuted_has Networks c set other order value = absurd (other refl)
permuted_has Texts c set other order value = permuted_key c.keys set (str_to_ascii_lowercase value) order
