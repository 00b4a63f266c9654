-- The lines `list NAME KIND FILE` of a rule file, right behind its first line, and the names by which conditions refer
-- to lists.
use Rattle.std.specs.Prelude.{◌≡◌, ◌==◌, ℕ, Bool, true, not, nat_lt, ◌&&◌, ◌||◌, List, [], ◌∷◌, ◌++◌, codes, length}
use Rattle.std.specs.Prelude.{Option, None, Some, if◌then◌else◌}
use Rattle.std.specs.Char.{is_ascii_alphanumeric}
use Rattle.std.specs.List.{find, list_all, list_any}
use Rattle.std.specs.Option.{option_map}
use Rattle.std.specs.Str.{bytes_eq}
use Rattle.milter_fields.specs.Bind.{◌>>=◌}
use Rattle.milter_text.specs.declared.word.Word.{Word}
use Rattle.milter_text.specs.Words.{HasWords}
use Rattle.milter_text.specs.WordValues.{is_keyword, keyword, plain_text, text_of}
use Rattle.milter_lists.specs.declared.list_kind.ListKind.{ListKind}
use Rattle.milter_lists.specs.declared.list_kind.ListKind.TheVariants.{Addresses, Domains, Networks, Texts}
use Rattle.milter_lists.specs.ListKinds.{kind_name}
use Rattle.milter_lists.specs.declared.sources.TheConstants.{LISTS_MAX}
use Rattle.milter_lists.specs.declared.sources.ListSource.{ListSource}

-- ---- names

-- an ASCII letter, a digit, `-`, `.` or `_`
abbrev pub is_name_byte : ℕ → Bool
is_name_byte byte = is_ascii_alphanumeric byte || (byte == 45 || (byte == 46 || byte == 95))

-- one byte of a name or more
abbrev pub is_list_name : List ℕ → Bool
is_list_name text = nat_lt 0 (length text) && list_all is_name_byte text

-- ---- what the words of a line give

-- the kind with this name
abbrev pub kind_in : Word → Option ListKind
kind_in word =
    if is_keyword (codes "addresses") word then Some Addresses
    else if is_keyword (codes "domains") word then Some Domains
    else if is_keyword (codes "networks") word then Some Networks
    else if is_keyword (codes "texts") word then Some Texts
    else None

abbrev pub if_name : List ℕ → Option (List ℕ)
if_name text = if is_list_name text then Some text else None

-- the name that a plain word is
abbrev pub name_in : Word → Option (List ℕ)
name_in word = plain_text word >>= if_name

-- the source of these parts
abbrev pub source_by : List ℕ → ListKind → List ℕ → ListSource
source_by name kind file = record { name = name; kind = kind; file = file }

-- the source with this name and kind, of the file that a quoted word names
abbrev pub source_at : Word → List ℕ → ListKind → Option ListSource
source_at file name kind = option_map (source_by name kind) (text_of file)

-- the source of the words after `list`
abbrev pub source_with : Word → Word → Word → Option ListSource
source_with name kind file = name_in name >>= λ n. kind_in kind >>= λ k. source_at file n k

-- `list NAME KIND FILE`
abbrev pub source_of : List Word → Option ListSource
source_of (first ∷ name ∷ kind ∷ file ∷ []) =
    if is_keyword (codes "list") first then source_with name kind file else None
source_of words = None

-- ---- how a source is written

abbrev pub source_words : ListSource → List Word
source_words s =
    keyword (codes "list") ∷ keyword s.name ∷ keyword (kind_name s.kind) ∷ record { text = s.file; quoted = true } ∷ []

-- a source that a line may have: its name is one
abbrev pub is_source : ListSource → Bool
is_source s = is_list_name s.name

-- ---- the lines

-- after these sources this one may come: they are not too many, and none has its name
abbrev pub may_follow : List ListSource → ListSource → Bool
may_follow before s = nat_lt (length before) LISTS_MAX && not (list_any (λ other. bytes_eq other.name s.name) before)

-- the line is in words, and they give this source
pub record IsSourceLine (line : List ℕ) (source : ListSource) : Type 0 where
  pub words : List Word
  pub has_words : HasWords line words
  pub gives : source_of words ≡ Some source

-- after the sources before, the lines give these others, and then the rest of the lines is left
abbrev pub HasSources : List ListSource → List ListSource → List (List ℕ) → List (List ℕ) → Type 0
HasSources before [] all rest = all ≡ rest
HasSources before (s ∷ sources) all rest =
    (line : List ℕ) × (left : List (List ℕ)) × (all ≡ line ∷ left) × IsSourceLine line s × (may_follow before s ≡ true)
    × HasSources (before ++ s ∷ []) sources left rest

-- the words give a source, which may come after those before, and then it is the last
pub record IsAdded (words : List Word) (before after : List ListSource) : Type 0 where
  pub source : ListSource
  pub gives : source_of words ≡ Some source
  pub may : may_follow before source ≡ true
  pub after_is : after ≡ before ++ source ∷ []

-- ---- references

-- the first of the sources that has the name
abbrev pub source_named : List ListSource → List ℕ → Option ListSource
source_named sources name = find (λ s. bytes_eq s.name name) sources
