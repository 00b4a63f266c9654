-- Local-part = Dot-string / Quoted-string, of RFC 5321, 4.1.2.
use Rattle.std.specs.Prelude.{ℕ, Bool, true, false, ◌&&◌, ◌||◌, nat_lt, List, [], ◌∷◌, ◌++◌, length, drop, Option, None, Some, option_map, if◌then◌else◌}
use Rattle.std.specs.List.{before_first, flat_map, list_all, position_or_len, slice_split}
use Rattle.milter_address.specs.Bytes.{is_at, is_atext, is_backslash, is_dot, is_paired, is_qtext, is_quote}

-- Atom = 1*atext
abbrev pub is_atom : List ℕ → Bool
is_atom bytes = nat_lt 0 (length bytes) && list_all is_atext bytes

-- Dot-string = Atom *("." Atom)
abbrev pub is_dot_string : List ℕ → Bool
is_dot_string bytes = list_all is_atom (slice_split is_dot bytes)

-- what a Local-part stands for, without quotes and backslashes, and the bytes behind it
pub record LocalPart : Type 0 where
  pub content : List ℕ
  pub rest : List ℕ

-- one more byte at the start of the content
abbrev pub onto : ℕ → Option LocalPart → Option LocalPart
onto byte None = None
onto byte (Some part) = Some (record { content = byte ∷ part.content; rest = part.rest })

-- *QcontentSMTP DQUOTE, which is behind an opening quote, with the bytes after it; `true` is behind a backslash, where
-- the second byte of a quoted-pairSMTP is next
abbrev pub quoted_content : Bool → List ℕ → Option LocalPart
quoted_content paired [] = None
quoted_content true (byte ∷ bytes) = if is_paired byte then onto byte (quoted_content false bytes) else None
quoted_content false (byte ∷ bytes) =
    if is_quote byte then Some (record { content = []; rest = bytes })
    else if is_backslash byte then quoted_content true bytes
    else if is_qtext byte then onto byte (quoted_content false bytes)
    else None

-- of a Quoted-string, given the bytes behind its opening quote: the content, and the bytes behind its closing quote
abbrev pub quoted_text : List ℕ → Option (List ℕ)
quoted_text bytes = option_map (λ part. part.content) (quoted_content false bytes)

abbrev pub quoted_rest : List ℕ → Option (List ℕ)
quoted_rest bytes = option_map (λ part. part.rest) (quoted_content false bytes)

-- the bytes before the first `@` are a Dot-string
abbrev pub dot_string : List ℕ → Option LocalPart
dot_string bytes =
    if is_dot_string (before_first is_at bytes)
    then Some (record { content = before_first is_at bytes; rest = drop (position_or_len is_at bytes) bytes })
    else None

-- the Local-part that bytes begin with
abbrev pub local_part : List ℕ → Option LocalPart
local_part [] = None
local_part (byte ∷ bytes) = if is_quote byte then quoted_content false bytes else dot_string (byte ∷ bytes)

-- ---- the canonical form

-- a quoted pair only before a quote and a backslash
abbrev pub quoted_byte : ℕ → List ℕ
quoted_byte byte = if is_quote byte || is_backslash byte then 92 ∷ byte ∷ [] else byte ∷ []

-- quotes only where it is no Dot-string
abbrev pub local_text : List ℕ → List ℕ
local_text content = if is_dot_string content then content else 34 ∷ flat_map quoted_byte content ++ 34 ∷ []
