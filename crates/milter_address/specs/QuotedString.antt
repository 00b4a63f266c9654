-- How a Quoted-string is read, byte by byte, behind its opening quote.
use Rattle.std.specs.Prelude.{ℕ, Bool, true, false, ◌&&◌, not, List, [], ◌∷◌, ◌++◌, Option, None, Some, if◌then◌else◌}
use Rattle.milter_address.specs.Bytes.{is_backslash, is_paired, is_qtext, is_quote}
use Rattle.milter_address.specs.LocalPart.{LocalPart}

-- a quote closes the string where no backslash is before it
abbrev pub is_closing : Bool → ℕ → Bool
is_closing paired byte = not paired && is_quote byte

-- whether the byte behind this one is the second of a quoted pair; none where this one may not be here
abbrev pub pairs_next : Bool → ℕ → Option Bool
pairs_next true byte = if is_paired byte then Some false else None
pairs_next false byte = if is_backslash byte then Some true else if is_qtext byte then Some false else None

-- what is read of the content: nothing at the first byte of a quoted pair
abbrev pub read_byte : Bool → ℕ → List ℕ
read_byte true byte = []
read_byte false byte = byte ∷ []

-- these bytes at the start of the content
abbrev pub onto_all : List ℕ → Option LocalPart → Option LocalPart
onto_all bytes None = None
onto_all bytes (Some part) = Some (record { content = bytes ++ part.content; rest = part.rest })
