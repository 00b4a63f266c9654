-- What can be wrong with a list file.
use Rattle.std.specs.Prelude.{◌≡◌, ◌≤◌, ℕ, suc, Bool, true, false, List, [], ◌∷◌, ◌++◌, length, map, if◌then◌else◌}
use Rattle.std.specs.List.{list_all}
use Rattle.milter_text.specs.LineCursor.{all_contents}
use Rattle.milter_text.specs.Lines.{is_skipped}
use Rattle.milter_lists.specs.Entries.{bytes_of}
use Rattle.milter_lists.specs.declared.text_set_builder.TheConstants.{BYTES_MAX, ENTRIES_MAX}
use Rattle.milter_lists.specs.declared.list_fault.ListFault.{ListFault}
use Rattle.milter_lists.specs.declared.list_fault.ListFault.TheVariants.{BadEntry, TooLarge, NoMemory}
use Rattle.milter_lists.specs.declared.list_kind.ListKind.{ListKind}
use Rattle.milter_lists.specs.Collected.{collected}
use Rattle.milter_lists.specs.Listed.{entries_in, is_entry, trimmed}

-- ---- good files

-- each of the entries is one of a list of this kind
abbrev pub are_good : ListKind → List (List ℕ) → Bool
are_good kind entries = list_all (is_entry kind) entries

-- the entries are within the limits of a list: their number, and the bytes of what isn't a network
pub record AreSmall (kind : ListKind) (entries : List (List ℕ)) : Type 0 where
  pub few : length entries ≤ ENTRIES_MAX
  pub short : bytes_of (collected kind entries).keys ≤ BYTES_MAX

abbrev pub has_good_entries : ListKind → List ℕ → Bool
has_good_entries kind bytes = are_good kind (entries_in bytes)

abbrev pub IsSmallFile : ListKind → List ℕ → Type 0
IsSmallFile kind bytes = AreSmall kind (entries_in bytes)

-- ---- the first fault

-- an entry, and the number of its line
pub record Numbered : Type 0 where
  pub line : ℕ
  pub entry : List ℕ

-- the entries of lines before which there are so many: lines are numbered from 1, the skipped ones too
abbrev pub numbered_from : ℕ → List (List ℕ) → List Numbered
numbered_from before [] = []
numbered_from before (line ∷ lines) =
    if is_skipped line then numbered_from (suc before) lines
    else record { line = suc before; entry = trimmed line } ∷ numbered_from (suc before) lines

abbrev pub numbered_entries : List ℕ → List Numbered
numbered_entries bytes = numbered_from 0 (all_contents bytes)

abbrev pub entries_of : List Numbered → List (List ℕ)
entries_of numbered = map (λ n. n.entry) numbered

-- The entries before that of this line are good and within the limits; and this is so of these entries and that one.
pub record StopsAt (IsWrong : List (List ℕ) → List ℕ → Type 0) (kind : ListKind) (bytes : List ℕ)
    (line : ℕ) : Type 0 where
  pub before : List Numbered
  pub entry : List ℕ
  pub after : List Numbered
  pub in_order : numbered_entries bytes ≡ before ++ record { line = line; entry = entry } ∷ after
  pub good : are_good kind (entries_of before) ≡ true
  pub small : AreSmall kind (entries_of before)
  pub is_wrong : IsWrong (entries_of before) entry

abbrev pub IsBad : ListKind → List (List ℕ) → List ℕ → Type 0
IsBad kind before entry = is_entry kind entry ≡ false

abbrev pub IsTooMuch : ListKind → List (List ℕ) → List ℕ → Type 0
IsTooMuch kind before entry = (is_entry kind entry ≡ true) × ¬ AreSmall kind (before ++ entry ∷ [])

-- the fault of a file: its first bad entry, or the first one by which it is too large
abbrev pub IsFaultOf : ListKind → List ℕ → ListFault → Type 0
IsFaultOf kind bytes (BadEntry line) = StopsAt (IsBad kind) kind bytes line
IsFaultOf kind bytes (TooLarge line) = StopsAt (IsTooMuch kind) kind bytes line
IsFaultOf kind bytes NoMemory = Unit {0}
