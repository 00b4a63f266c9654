-- The entries of a set of texts, in one list of bytes.
use Rattle.std.specs.Prelude.{◌≡◌, ℕ, ◌+◌, ◌≤◌, List, length, map, take, drop, sum_by}
use Rattle.std.specs.List.{All}
use Rattle.milter_lists.specs.declared.text_set_builder.TheConstants.{BYTES_MAX, ENTRIES_MAX}
use Rattle.milter_lists.specs.declared.span.Span.{Span}

-- the bytes of an entry
abbrev pub entry_of : List ℕ → Span → List ℕ
entry_of bytes span = take span.len (drop span.start bytes)

-- the entries at these places
abbrev pub entries_of : List ℕ → List Span → List (List ℕ)
entries_of bytes spans = map (entry_of bytes) spans

-- how many bytes the entries have
abbrev pub bytes_of : List (List ℕ) → ℕ
bytes_of entries = sum_by length entries

-- the place is among the bytes
abbrev pub IsWithin : List ℕ → Span → Type 0
IsWithin bytes span = span.start + span.len ≤ length bytes

-- the bytes are those of the entries at these places, within the limits
pub record HasEntries (bytes : List ℕ) (spans : List Span) : Type 0 where
  pub places : All (IsWithin bytes) spans
  pub total : bytes_of (entries_of bytes spans) ≡ length bytes
  pub few : length spans ≤ ENTRIES_MAX
  pub short : length bytes ≤ BYTES_MAX
