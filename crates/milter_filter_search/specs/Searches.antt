-- What of a message was searched: each search says of a beginning of it whether something was found there.
use Rattle.std.specs.Prelude.{◌≡◌, ◌≤◌, ℕ, Bool, false, List, [], length, take}
use Rattle.std.specs.List.{list_any}
use Rattle.milter_filter_search.specs.declared.pattern.Test.TheVariants.{Has}
use Rattle.milter_filter_search.specs.declared.search.Search.{Search}
use Rattle.milter_text.specs.declared.glob.TextCase.{TextCase}
use Rattle.milter_filter_search.specs.Texts.{finds}

-- ---- searches among items, of which each has what a key stands for or not

-- what it says of the first of these items is so
abbrev pub HasLooked : {K T : Type 0} → (K → T → Bool) → List T → Search K → Type 0
HasLooked finds items s = (s.looked ≤ length items) × (s.found ≡ list_any (finds s.key) (take s.looked items))

-- a search of nothing yet
abbrev pub IsUnlooked : {K : Type 0} → Search K → Type 0
IsUnlooked s = (s.looked ≡ 0) × (s.found ≡ false)

-- ---- searches in a body

-- a text that is looked for in a body, and whether it occurs in so many bytes of it
pub record BodySearch : Type 0 where
  pub case : TextCase
  pub text : List ℕ
  pub looked : ℕ
  pub found : Bool

abbrev pub occurs_in : BodySearch → List ℕ → Bool
occurs_in s bytes = finds s.case Has s.text bytes

-- what it says of the first of these bytes is so
abbrev pub HasRead : List ℕ → BodySearch → Type 0
HasRead bytes s = (s.looked ≤ length bytes) × (s.found ≡ occurs_in s (take s.looked bytes))

-- a search of nothing yet: the empty text alone occurs there
abbrev pub IsUnread : BodySearch → Type 0
IsUnread s = (s.looked ≡ 0) × (s.found ≡ occurs_in s [])

-- a search of all of these bytes
abbrev pub read_to_end : List ℕ → BodySearch → BodySearch
read_to_end bytes s = record s { looked = length bytes; found = occurs_in s bytes }
