-- The lists of a rule file, from the bytes of their files.
use Rattle.std.specs.Prelude.{◌≡◌, ◌<◌, ℕ, true, List, All, Option, Some, find, length, option_map}
use Rattle.std.specs.List.{AllZip, list_any}
use Rattle.std.specs.Str.{bytes_eq}
use Rattle.milter_lists.specs.ListFaults.{IsSmallFile, has_good_entries}
use Rattle.milter_lists.specs.ListValues.{has_value}
use Rattle.milter_lists.specs.Listed.{entries_in, entry_has}
use Rattle.milter_lists.specs.declared.sources.ListSource.{ListSource}
use Rattle.milter_filter_rules.specs.declared.named_list.NamedList.{NamedList}
use Rattle.milter_rules.specs.declared.list_file.ListFile.{ListFile}
use Rattle.milter_rules.specs.declared.list_file.ListFileFault.{ListFileFault}
use Rattle.milter_rules.specs.declared.list_file.ListFileFault.TheVariants.{BadList, NoMemory}

-- the bytes of the first file of this name
abbrev pub bytes_named : List ListFile → List ℕ → Option (List ℕ)
bytes_named files name = option_map (λ file. file.bytes) (find (λ file. bytes_eq file.name name) files)

-- the list comes from this source, and has the values that some entry of its file has
pub record IsRead (files : List ListFile) (source : ListSource) (named : NamedList) : Type 0 where
  pub source_is : named.source ≡ source
  pub bytes : List ℕ
  pub there : bytes_named files source.name ≡ Some bytes
  pub has : (value : List ℕ) →
      has_value named.list value ≡ list_any (entry_has source.kind value) (entries_in bytes)

-- each of the lists comes from its source
abbrev pub AreRead : List ListFile → List ListSource → List NamedList → Type 0
AreRead files sources lists = AllZip (IsRead files) sources lists

-- the file of this source is there, each of its entries is a good one, and it isn't too large
pub record CanBeList (files : List ListFile) (source : ListSource) : Type 0 where
  pub bytes : List ℕ
  pub there : bytes_named files source.name ≡ Some bytes
  pub good : has_good_entries source.kind bytes ≡ true
  pub small : IsSmallFile source.kind bytes

-- the files of all of these are
abbrev pub CanBeRead : List ListFile → List ListSource → Type 0
CanBeRead files sources = All (CanBeList files) sources

-- the fault is of the list with this index, unless it is NoMemory
abbrev pub IsAtIndex : ℕ → ListFileFault → Type 0
IsAtIndex index (BadList at) = at ≡ index
IsAtIndex index NoMemory = Unit {0}

-- the fault is of one of the lists, unless it is NoMemory
abbrev pub IsOfList : List NamedList → ListFileFault → Type 0
IsOfList lists (BadList index) = index < length lists
IsOfList lists NoMemory = Unit {0}
