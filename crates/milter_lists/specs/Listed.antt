-- What list files have: their entries, and the values that an entry has.
use Rattle.std.specs.Prelude.{ℕ, ◌==◌, Bool, true, false, ◌&&◌, ◌||◌, not, nat_eq, nat_lt, List, [], ◌∷◌, codes, is_some, map, if◌then◌else◌}
use Rattle.std.specs.List.{ends_with, list_all, list_any}
use Rattle.std.specs.Str.{bytes_eq, str_to_ascii_lowercase}
use Rattle.milter_address.specs.Address.{canonical_address}
use Rattle.milter_address.specs.Bytes.{is_at, is_dot}
use Rattle.milter_address.specs.Domain.{canonical_domain}
use Rattle.milter_address.specs.Trimmed.{trimmed_end, trimmed_start}
use Rattle.milter_address.specs.ReadTexts.{is_text_within, network_in}
use Rattle.milter_text.specs.Lines.{contents}
use Rattle.milter_lists.specs.declared.list_kind.ListKind.{ListKind}
use Rattle.milter_lists.specs.declared.list_kind.ListKind.TheVariants.{Addresses, Domains, Networks, Texts}

-- ---- the entries of a file

abbrev pub is_blank : ℕ → Bool
is_blank byte = byte == 32

-- without blanks at the start and at the end
abbrev pub trimmed : List ℕ → List ℕ
trimmed line = trimmed_end is_blank (trimmed_start is_blank line)

-- the lines that aren't skipped, without the blanks around them
abbrev pub entries_in : List ℕ → List (List ℕ)
entries_in bytes = map trimmed (contents bytes)

-- ---- the values that an entry has

-- the bytes begin with a dot
abbrev pub begins_with_dot : List ℕ → Bool
begins_with_dot [] = false
begins_with_dot (byte ∷ bytes) = is_dot byte

-- a canonical domain is another, or ends with one that begins with a dot, and is below it
abbrev pub is_domain_in : List ℕ → List ℕ → Bool
is_domain_in domain entry =
    if begins_with_dot entry then ends_with nat_eq domain entry else bytes_eq domain entry

-- an entry of a list of this kind has the value
abbrev pub entry_has : ListKind → List ℕ → List ℕ → Bool
entry_has Addresses value entry = bytes_eq value (canonical_address entry)
entry_has Domains value entry = is_domain_in (canonical_domain value) (canonical_domain entry)
entry_has Networks value entry = is_text_within entry value
entry_has Texts value entry = bytes_eq (str_to_ascii_lowercase value) (str_to_ascii_lowercase entry)

-- ---- good entries

-- no blank and no control byte
abbrev pub is_visible : ℕ → Bool
is_visible byte = nat_lt 32 byte && not (byte == 127)

abbrev pub begins_with_at : List ℕ → Bool
begins_with_at [] = false
begins_with_at (byte ∷ bytes) = is_at byte

-- an entry with this canonical form is `<>`, or has an `@` behind a local part
abbrev pub is_address : List ℕ → List ℕ → Bool
is_address entry canonical =
    list_all is_visible entry
    && (bytes_eq entry (codes "<>") || (list_any is_at entry && not (begins_with_at canonical)))

abbrev pub is_domain_byte : ℕ → Bool
is_domain_byte byte = is_visible byte && not (is_at byte)

-- without the dot at the start
abbrev pub without_dot : List ℕ → List ℕ
without_dot [] = []
without_dot (byte ∷ bytes) = if is_dot byte then bytes else byte ∷ bytes

-- something that doesn't begin with a dot
abbrev pub is_name : List ℕ → Bool
is_name [] = false
is_name (byte ∷ bytes) = not (is_dot byte)

-- an entry with this canonical form is a name, or a name behind a dot
abbrev pub is_domain : List ℕ → List ℕ → Bool
is_domain entry canonical = list_all is_domain_byte entry && is_name (without_dot canonical)

-- it may be an entry of a list of this kind
abbrev pub is_entry : ListKind → List ℕ → Bool
is_entry Addresses entry = is_address entry (canonical_address entry)
is_entry Domains entry = is_domain entry (canonical_domain entry)
is_entry Networks entry = is_some (network_in entry)
is_entry Texts entry = true
