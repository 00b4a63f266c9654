-- The names of the bits of options, and texts that name sets of them.
use Rattle.std.specs.Prelude.{◌≡◌, ◌⊎◌, ◌↔◌, ℕ, ◌^◌, ◌==◌, ◌&&◌, nat_eq, nat_lt, Bool, List, [], ◌∷◌, codes, map, All, Option, Some, IsSome, option_map, if◌then◌else◌}
use Rattle.std.specs.Int.{bit_at}
use Rattle.std.specs.List.{filter, join_with_byte, slice_split}
use Rattle.std.specs.Cmp.Lexicographic.{pointwise}
use Rattle.std.specs.Int.RustNames.{bit_and, bit_or}
use Rattle.bitflags.specs.Sets.{Row, find_name}
use Rattle.milter_fields.specs.Bind.{◌>>=◌}

-- ---- the names

-- the changes to a message that a filter may ask for
abbrev pub actions_table : List Row
actions_table =
    (codes "ADDHDRS", 1)
    ∷ (codes "CHGBODY", 2)
    ∷ (codes "ADDRCPT", 4)
    ∷ (codes "DELRCPT", 8)
    ∷ (codes "CHGHDRS", 16)
    ∷ (codes "QUARANTINE", 32)
    ∷ (codes "CHGFROM", 64)
    ∷ (codes "ADDRCPT_PAR", 128)
    ∷ (codes "SETSYMLIST", 256)
    ∷ []

-- the steps that are not sent, or not answered
abbrev pub protocol_table : List Row
protocol_table =
    (codes "NOCONNECT", 1)
    ∷ (codes "NOHELO", 2)
    ∷ (codes "NOMAIL", 4)
    ∷ (codes "NORCPT", 8)
    ∷ (codes "NOBODY", 16)
    ∷ (codes "NOHDRS", 32)
    ∷ (codes "NOEOH", 64)
    ∷ (codes "NR_HDR", 128)
    ∷ (codes "NOUNKNOWN", 256)
    ∷ (codes "NODATA", 512)
    ∷ (codes "SKIP", 1024)
    ∷ (codes "NR_CONN", 4096)
    ∷ (codes "NR_HELO", 8192)
    ∷ (codes "NR_MAIL", 16384)
    ∷ (codes "NR_RCPT", 32768)
    ∷ (codes "NR_DATA", 65536)
    ∷ (codes "NR_UNKN", 131072)
    ∷ (codes "NR_EOH", 262144)
    ∷ (codes "NR_BODY", 524288)
    ∷ (codes "HDR_LEADSPC", 1048576)
    ∷ []

-- a set of these bits alone
abbrev pub is_within : ℕ → ℕ → Bool
is_within all bits = bit_and bits all == bits && nat_lt bits (2 ^ 32)

-- ---- texts

-- the parts of a text between bars
abbrev pub names_in : List ℕ → List (List ℕ)
names_in text = slice_split (λ byte. byte == 124) text

-- the bit of each of these names, or nothing where one of them is no bit's
unfoldable pub each_found : List Row → List (List ℕ) → Option (List ℕ)
each_found table [] = Some []
each_found table (name ∷ names) = find_name table name >>= λ bit. each_found table names >>= λ bits. Some (bit ∷ bits)

-- a set with these bits too
unfoldable pub with_bits : ℕ → List ℕ → ℕ
with_bits set [] = set
with_bits set (bit ∷ bits) = with_bits (bit_or set bit) bits

-- the set of a text: no bit for the word `none`, else those of the names between its bars
abbrev pub bits_named : List Row → List ℕ → Option ℕ
bits_named table text =
    if pointwise nat_eq text (codes "none") then Some 0
    else option_map (with_bits 0) (each_found table (names_in text))

-- ---- the text of a set

-- the names of those bits of a table that a set has, in the order of the table
abbrev pub names_of : List Row → ℕ → List (List ℕ)
names_of table set = map (λ row. row.0) (filter (λ row. bit_and set row.1 == row.1) table)

-- names joined by bars, or the word `none` for no names
abbrev pub names_joined : List (List ℕ) → List ℕ
names_joined [] = codes "none"
names_joined (name ∷ names) = join_with_byte 124 (name ∷ names)

abbrev pub names_text : List Row → ℕ → List ℕ
names_text table set = names_joined (names_of table set)

-- ---- what such a set is

-- a name of the bit at this position of a number
pub record NamesBit (table : List Row) (position : ℕ) (name : List ℕ) : Type 0 where
  pub bit : ℕ
  pub is : find_name table name ≡ Some bit
  pub has : bit_at bit position ≡ 1

-- one of these names is such a name
abbrev pub OneNames : List Row → ℕ → List (List ℕ) → Type 0
OneNames table position [] = ⊥
OneNames table position (name ∷ names) = NamesBit table position name ⊎ OneNames table position names

-- each name is a bit's
abbrev pub AreKnown : List Row → List (List ℕ) → Type 0
AreKnown table names = All (λ name. IsSome (find_name table name)) names

-- Each name is a bit's, and the set has their bits and no others.
pub record IsSetOf (table : List Row) (names : List (List ℕ)) (set : ℕ) : Type 0 where
  pub known : AreKnown table names
  pub positions : (position : ℕ) → (bit_at set position ≡ 1) ↔ OneNames table position names
