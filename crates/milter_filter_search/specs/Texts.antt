-- Texts that are looked for in values.
use Rattle.std.specs.Prelude.{◌≡◌, ◌++◌, ◌-◌, ℕ, Bool, ◌||◌, List, [], ◌∷◌, codes, drop, length, map, take}
use Rattle.std.specs.List.{filter, list_any}
use Rattle.std.specs.Str.{bytes_eq, str_eq_ignore_ascii_case, str_to_ascii_lowercase}
use Rattle.milter_address.specs.Domain.{is_under}
use Rattle.milter_text.specs.Globs.{is_like}
use Rattle.milter_fields.specs.declared.header.Header.{Header}
use Rattle.milter_filter_search.specs.declared.pattern.Test.{Test}
use Rattle.milter_filter_search.specs.declared.pattern.Test.TheVariants.{Is, Has, Lacks, Begins, Ends, Like, Under}
use Rattle.milter_text.specs.declared.glob.TextCase.{TextCase}
use Rattle.milter_text.specs.declared.glob.TextCase.TheVariants.{Exact, Ignored}

-- a text as it is compared: where the case of ASCII letters doesn't count, each of them in lower case
abbrev pub folded : TextCase → List ℕ → List ℕ
folded Exact text = text
folded Ignored text = str_to_ascii_lowercase text

-- the bytes begin with the text
abbrev pub begins_with : List ℕ → List ℕ → Bool
begins_with bytes text = bytes_eq (take (length text) bytes) text

-- the bytes end with the text
abbrev pub ends_with : List ℕ → List ℕ → Bool
ends_with bytes text = bytes_eq (drop (length bytes - length text) bytes) text

-- the text occurs in the bytes: they begin with it, or those after the first have it
abbrev pub contains : List ℕ → List ℕ → Bool
contains [] text = begins_with [] text
contains (byte ∷ bytes) text = begins_with (byte ∷ bytes) text || contains bytes text

-- bytes that have a text in them: those before it, the text, and those after it
pub record Around (bytes text : List ℕ) : Type 0 where
  pub before : List ℕ
  pub after : List ℕ
  pub whole : bytes ≡ before ++ (text ++ after)

-- the word of a test in rule files
abbrev pub test_name : Test → List ℕ
test_name Is = codes "is"
test_name Has = codes "has"
test_name Lacks = codes "lacks"
test_name Begins = codes "begins"
test_name Ends = codes "ends"
test_name Like = codes "like"
test_name Under = codes "under"

-- a value is the text, has it, begins or ends with it, is what it stands for as a pattern, or is a domain under it
abbrev pub finds : TextCase → Test → List ℕ → List ℕ → Bool
finds case Is text value = bytes_eq (folded case value) (folded case text)
finds case Has text value = contains (folded case value) (folded case text)
finds case Lacks text value = contains (folded case value) (folded case text)
finds case Begins text value = begins_with (folded case value) (folded case text)
finds case Ends text value = ends_with (folded case value) (folded case text)
finds case Like text value = is_like case text value
finds case Under text value = is_under value text

abbrev pub is_named : List ℕ → Header → Bool
is_named name header = str_eq_ignore_ascii_case header.name name

-- the values of the header fields of this name
abbrev pub values_named : List ℕ → List Header → List (List ℕ)
values_named name headers = map (λ header. header.value) (filter (is_named name) headers)

-- the text is found in the value of a header field of this name
abbrev pub finds_named : TextCase → Test → List ℕ → List ℕ → List Header → Bool
finds_named case test text name headers = list_any (finds case test text) (values_named name headers)
