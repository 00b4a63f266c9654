-- The decoding of fields and payloads, from left to right; `None` where the bytes aren't in the layout.
use Rattle.std.specs.Prelude.{◌≡◌, ℕ, zero, suc, ◌==◌, List, [], ◌∷◌, Option, Some, None, IsSome, Result, Ok, Err, if◌then◌else◌}
use Rattle.std.specs.Int.{w16, from_be_bytes}
use Rattle.milter_fields.specs.declared.client.TheConstants.{SMFIA_INET, SMFIA_INET6, SMFIA_UNIX, SMFIA_UNKNOWN}
use Rattle.milter_fields.specs.declared.client.Client.{Client}
use Rattle.milter_fields.specs.declared.client.Origin.{Origin}
use Rattle.milter_fields.specs.declared.client.Origin.TheVariants.{Unknown, Unix, Inet, Inet6}
use Rattle.milter_fields.specs.declared.fault.NoMemory as memory
use Rattle.milter_fields.specs.declared.header.Header.{Header}
use Rattle.milter_fields.specs.declared.pair.Pair.{Pair}
use Rattle.milter_fields.specs.declared.path.Path.{Path}
use Rattle.milter_fields.specs.Layout.{is_reply_code}
use Rattle.milter_fields.specs.Number.{number_at}
use Rattle.milter_fields.specs.Bind.{◌>>=◌}

-- A field is a value and the bytes after it.

-- nothing stands after the value
abbrev pub ended : {A : Type 0} → A → List ℕ → Option A
ended x [] = Some x
ended x (byte ∷ rest) = None

-- ---- fields

-- the port that two bytes encode, the higher first
unfoldable pub port_of : ℕ → ℕ → ℕ
port_of a b = from_be_bytes w16 (a ∷ b ∷ [])

abbrev pub port_at : List ℕ → Option (ℕ × List ℕ)
port_at (a ∷ b ∷ rest) = Some (port_of a b, rest)
port_at _ = None

-- the text up to the first NUL, and the bytes after the NUL
unfoldable pub string_at : List ℕ → Option (List ℕ × List ℕ)
string_at [] = None
string_at (zero ∷ rest) = Some ([], rest)
string_at (suc byte ∷ rest) = do
  text ← string_at rest
  Some (suc byte ∷ text.0, text.1)

-- ---- whole payloads, up to the end of the bytes

unfoldable pub string_in : List ℕ → Option (List ℕ)
string_in bytes = do
  text ← string_at bytes
  ended text.0 text.1

unfoldable pub header_in : List ℕ → Option Header
header_in bytes = do
  name ← string_at bytes
  value ← string_at name.1
  ended (record { name = name.0; value = value.0 }) value.1

-- a number, and then a header field
unfoldable pub indexed_in : List ℕ → Option (ℕ × Header)
indexed_in bytes = do
  index ← number_at bytes
  header ← header_in index.1
  Some (index.0, header)

-- one byte more of the first text
abbrev pub with_byte : ℕ → List (List ℕ) → Option (List (List ℕ))
with_byte byte [] = None
with_byte byte (text ∷ texts) = Some ((byte ∷ text) ∷ texts)

-- strings, each up to its NUL
unfoldable pub strings_in : List ℕ → Option (List (List ℕ))
strings_in [] = Some []
strings_in (zero ∷ rest) = do
  texts ← strings_in rest
  Some ([] ∷ texts)
strings_in (suc byte ∷ rest) = do
  texts ← strings_in rest
  with_byte (suc byte) texts

-- texts two by two
unfoldable pub paired : List (List ℕ) → Option (List Pair)
paired [] = Some []
paired (name ∷ []) = None
paired (name ∷ value ∷ texts) = do
  pairs ← paired texts
  Some (record { name = name; value = value } ∷ pairs)

unfoldable pub pairs_in : List ℕ → Option (List Pair)
pairs_in bytes = strings_in bytes >>= paired

-- a byte, and then pairs
unfoldable pub macro_in : List ℕ → Option (ℕ × List Pair)
macro_in [] = None
macro_in (command ∷ rest) = do
  pairs ← pairs_in rest
  Some (command, pairs)

unfoldable pub path_in : List ℕ → Option Path
path_in bytes = do
  address ← string_at bytes
  params ← strings_in address.1
  Some (record { address = address.0; params = params })

-- a port, and then one string
unfoldable pub endpoint_in : List ℕ → Option (ℕ × List ℕ)
endpoint_in bytes = do
  port ← port_at bytes
  address ← string_in port.1
  Some (port.0, address)

unfoldable pub origin_in : List ℕ → Option Origin
origin_in [] = None
origin_in (family ∷ rest) =
    if family == SMFIA_UNKNOWN then ended Unknown rest
    else if family == SMFIA_UNIX then (endpoint_in rest >>= λ endpoint. Some (Unix endpoint.0 endpoint.1))
    else if family == SMFIA_INET then (endpoint_in rest >>= λ endpoint. Some (Inet endpoint.0 endpoint.1))
    else if family == SMFIA_INET6 then (endpoint_in rest >>= λ endpoint. Some (Inet6 endpoint.0 endpoint.1))
    else None

unfoldable pub client_in : List ℕ → Option Client
client_in bytes = do
  host ← string_at bytes
  origin ← origin_in host.1
  Some (record { host = host.0; origin = origin })

-- nothing, or one string
unfoldable pub arguments_in : List ℕ → Option (Option (List ℕ))
arguments_in [] = Some None
arguments_in (byte ∷ rest) = do
  text ← string_in (byte ∷ rest)
  Some (Some text)

unfoldable pub addressed_in : List ℕ → Option (List ℕ × Option (List ℕ))
addressed_in bytes = do
  address ← string_at bytes
  arguments ← arguments_in address.1
  Some (address.0, arguments)

unfoldable pub reply_code_in : List ℕ → Option (List ℕ)
reply_code_in bytes = do
  text ← string_in bytes
  if is_reply_code text then Some text else None

-- ---- answers

-- A value is given where one is read, unless memory is refused; and memory is refused only there.
abbrev pub DecodesOptional : {V : Type 0} → Option V → Result (Option V) memory.NoMemory → Type 0
DecodesOptional read (Ok found) = found ≡ read
DecodesOptional read (Err refused) = IsSome read
