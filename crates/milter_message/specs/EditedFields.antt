-- Header fields that are edited by an index.
use Rattle.std.specs.Prelude.{◌≡◌, ℕ, zero, suc, ◌<◌, ◌≤◌, ◌==◌, List, [], ◌∷◌, length, map, slice_index_or}
use Rattle.std.specs.Borrow.{Bor}
use Rattle.std.specs.BTreeMap.{BTreeMap}
use Rattle.std.specs.List.{All, count_by, remove}
use Rattle.milter_field_index.specs.Fields.{Entry, Fields}
use Rattle.milter_fields.specs.declared.header.Header.{Header}
use Rattle.milter_message.specs.declared.source.Source.{Source}
use Rattle.milter_message.specs.LeadingSpace.{changed_value, put_value}
use Rattle.milter_message.specs.NameNumbers.{number_of}

-- a header field, with the number of its name
pub record NumberedField : Type 0 where
  pub name : ℕ
  pub header : Header

-- the header field that borrowed texts make
abbrev pub shown : Source → Header
shown source = record { name = source.name.now; value = put_value source.leading_space source.value.now }

-- the one with an id
abbrev pub header_at : List Header → ℕ → Header
header_at headers id = slice_index_or headers id (record { name = []; value = [] })

-- the fields that are there, by the entries of their index
abbrev pub field_of : List Header → Entry → NumberedField
field_of headers entry = record { name = entry.name; header = header_at headers entry.id }

abbrev pub fields_of : List Source → List Entry → List NumberedField
fields_of sources entries = map (field_of (map shown sources)) entries

-- each field that is there has a source of its own, by its id
pub record HasSources (sources : List Source) (index : Fields) : Type 0 where
  pub inserted : index.inserted ≡ length sources
  pub within : All (λ entry. entry.id < length sources) index.entries
  pub apart : (id : ℕ) → count_by (λ entry. entry.id == id) index.entries ≤ 1

-- all ids of the sources, in an order
pub record HasOrder (sources : List Source) (order : List ℕ) : Type 0 where
  pub all : length order ≡ length sources
  pub within : All (λ id. id < length sources) order

-- a field with another value
abbrev pub with_value : List ℕ → NumberedField → NumberedField
with_value value field = record { name = field.name; header = record { name = field.header.name; value = value } }

-- the field at a position gets another value
abbrev pub with_value_at : ℕ → List ℕ → List NumberedField → List NumberedField
with_value_at position value [] = []
with_value_at zero value (field ∷ fields) = with_value value field ∷ fields
with_value_at (suc position) value (field ∷ fields) = field ∷ with_value_at position value fields

-- the field at a position gets another value, or is deleted where that is empty
abbrev pub set_numbered : ℕ → List ℕ → List NumberedField → List NumberedField
set_numbered position [] fields = remove fields position
set_numbered position (byte ∷ bytes) fields = with_value_at position (byte ∷ bytes) fields

-- without the numbers
abbrev pub headers_of : List NumberedField → List Header
headers_of fields = map (λ field. field.header) fields

-- what a change makes of a field: an empty value stays empty
abbrev pub changed : Source → Header
changed source = record { name = source.name.now; value = changed_value source.leading_space source.value.now }

-- header fields with the numbers of their names
abbrev pub numbered_fields : BTreeMap (Bor (List ℕ)) ℕ → List Header → List NumberedField
numbered_fields numbers headers =
    map (λ header. record { name = number_of numbers header.name; header = header }) headers

abbrev pub IsNumberedBy : BTreeMap (Bor (List ℕ)) ℕ → List NumberedField → Type 0
IsNumberedBy numbers fields = fields ≡ numbered_fields numbers (headers_of fields)

-- header fields whose names have this number
abbrev pub with_number : ℕ → List Header → List NumberedField
with_number number headers = map (λ header. record { name = number; header = header }) headers
