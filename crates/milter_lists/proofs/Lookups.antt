-- What a search finds is what the entries have.
use Rattle.std.proofs.Common.{◌≡◌, ℕ, List, [], ◌∷◌, map, refl, ap, ◌∙◌}
use Rattle.std.specs.Prelude.{◌||◌}
use Rattle.std.specs.List.{list_any}
use Rattle.std.specs.Str.{bytes_eq, str_to_ascii_lowercase}
use Rattle.milter_address.specs.Address.{canonical_address}
use Rattle.milter_address.specs.Domain.{canonical_domain}
use Rattle.milter_lists.specs.declared.list_kind.ListKind.{ListKind}
use Rattle.milter_lists.specs.declared.list_kind.ListKind.TheVariants.{Addresses, Domains, Networks, Texts}
use Rattle.milter_lists.specs.Collected.{collected, has}
use Rattle.milter_lists.specs.ListKeys.{dot_suffixes, is_key}
use Rattle.milter_lists.specs.Listed.{entry_has, is_domain_in}
use Rattle.milter_lists.proofs.DomainLookups.{domain_found}
use Rattle.milter_lists.proofs.KeySets.{any_congr, any_swap}
use Rattle.milter_lists.proofs.NetworkLookups.{text_found}

address_found : (value : List ℕ) (entries : List (List ℕ))
    → is_key (collected Addresses entries).keys value ≡ list_any (λ entry. bytes_eq value (canonical_address entry)) entries
address_found value [] = refl
address_found value (entry ∷ entries) = ap (λ b. bytes_eq value (canonical_address entry) || b) (address_found value entries)

found_text : (lower : List ℕ) (entries : List (List ℕ))
    → is_key (collected Texts entries).keys lower ≡ list_any (λ entry. bytes_eq lower (str_to_ascii_lowercase entry)) entries
found_text lower [] = refl
found_text lower (entry ∷ entries) = ap (λ b. bytes_eq lower (str_to_ascii_lowercase entry) || b) (found_text lower entries)

domain_keys : (entries : List (List ℕ)) → (collected Domains entries).keys ≡ map canonical_domain entries
domain_keys [] = refl
domain_keys (entry ∷ entries) = ap (λ keys. canonical_domain entry ∷ keys) (domain_keys entries)

found_domain : (domain : List ℕ) (entries : List (List ℕ))
    → list_any (is_key (collected Domains entries).keys) (domain ∷ dot_suffixes domain)
    ≡ list_any (λ entry. is_domain_in domain (canonical_domain entry)) entries
found_domain domain entries =
    ap (λ keys. list_any (is_key keys) (domain ∷ dot_suffixes domain)) (domain_keys entries)
    ∙ any_swap canonical_domain (domain ∷ dot_suffixes domain) entries
    ∙ any_congr (λ entry. list_any (λ key. bytes_eq key (canonical_domain entry)) (domain ∷ dot_suffixes domain))
    (λ entry. is_domain_in domain (canonical_domain entry)) entries (λ entry. domain_found domain (canonical_domain entry))

pub entries_found : (kind : ListKind) (value : List ℕ) (entries : List (List ℕ))
    → has kind (collected kind entries) value ≡ list_any (entry_has kind value) entries
entries_found Addresses value entries = address_found value entries
entries_found Domains value entries = found_domain (canonical_domain value) entries
entries_found Networks value entries = text_found value entries
entries_found Texts value entries = found_text (str_to_ascii_lowercase value) entries
