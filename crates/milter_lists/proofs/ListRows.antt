-- Files of lists, and values that their entries have. Sources of the texts: RFC 5321, appendix C; RFC 5737, 3; RFC 4291,
-- 2.5.5.2.
use Rattle.std.proofs.Common.{◌≡◌, ℕ, ◌+◌, ◌*◌, ◌-◌, ◌^◌, Bool, true, false, List, [], ◌∷◌, Some, refl}
use Rattle.std.specs.Prelude.{codes}
use Rattle.std.specs.List.{list_any}
use Rattle.milter_address.specs.Address.{canonical_address}
use Rattle.milter_address.specs.declared.ip_address.Address.TheVariants.{V4, V6}
use Rattle.milter_lists.specs.declared.list_kind.ListKind.{ListKind}
use Rattle.milter_lists.specs.declared.list_kind.ListKind.TheVariants.{Addresses, Domains, Texts}
use Rattle.milter_lists.specs.ListFaults.{has_good_entries, numbered_entries}
use Rattle.milter_lists.specs.Listed.{entries_in, entry_has}
use Rattle.milter_lists.specs.NetworkRanges.{have_address, range_of}

-- some entry of a file has the value
abbrev file_has : ListKind → List ℕ → List ℕ → Bool
file_has kind file value = list_any (entry_has kind value) (entries_in file)

-- ---- entries and their lines

two_entries : entries_in (codes "# a\n\n b.example \r\n  #c\nd")
    ≡ codes "b.example" ∷ codes "d" ∷ []
two_entries = refl

their_lines : numbered_entries (codes "# a\n\n b.example \r\n  #c\nd")
    ≡ record { line = 3; entry = codes "b.example" } ∷ record { line = 5; entry = codes "d" } ∷ []
their_lines = refl

-- ---- addresses

routed : file_has Addresses (codes "<@hosta.int,@jkl.org:userc@d.bar.org>") (canonical_address (codes "userc@D.Bar.Org.")) ≡ true
routed = refl

null_sender : file_has Addresses (codes "userc@d.bar.org\n<>") (canonical_address (codes "<>")) ≡ true
null_sender = refl

other_user : file_has Addresses (codes "userc@d.bar.org") (canonical_address (codes "userd@d.bar.org")) ≡ false
other_user = refl

no_address : has_good_entries Addresses (codes "userc@d.bar.org\nd.bar.org") ≡ false
no_address = refl

-- ---- domains

itself : file_has Domains (codes "bar.org") (codes "Bar.Org.") ≡ true
itself = refl

not_below : file_has Domains (codes "bar.org") (codes "d.bar.org") ≡ false
not_below = refl

below : file_has Domains (codes ".bar.org") (codes "c.d.bar.org") ≡ true
below = refl

not_itself : file_has Domains (codes ".bar.org") (codes "bar.org") ≡ false
not_itself = refl

ends_so : file_has Domains (codes "bar.org\n.bar.org") (codes "foobar.org") ≡ false
ends_so = refl

-- ---- networks, by their numbers: 192.0.2.0/24 and ::/0

subnet : range_of 0xC0000201 8 ≡ record { first = 0xC0000200; last = 0xC00002FF }
subnet = refl

all_numbers : range_of 7 128 ≡ record { first = 0; last = 2 ^ 128 - 1 }
all_numbers = refl

within : have_address (range_of 0xC0000200 8 ∷ []) [] (Some (V4 0xC00002FF)) ≡ true
within = refl

behind : have_address (range_of 0xC0000200 8 ∷ []) [] (Some (V4 0xC0000300)) ≡ false
behind = refl

mapped : have_address (range_of 0xC0000200 8 ∷ []) [] (Some (V6 (0xffff * 2 ^ 32 + 0xC0000263))) ≡ true
mapped = refl

other_family : have_address [] (range_of 0 128 ∷ []) (Some (V4 0xC0000201)) ≡ false
other_family = refl

-- ---- texts

any_case : file_has Texts (codes "Bulk Mailer") (codes "bulk mailer") ≡ true
any_case = refl

part : file_has Texts (codes "Bulk Mailer") (codes "bulk") ≡ false
part = refl
