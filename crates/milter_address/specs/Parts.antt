-- Bytes that are cut at a separator.
use Rattle.std.specs.Prelude.{◌≡◌, ◌<◌, ◌==◌, ℕ, Bool, List, [], ◌∷◌, drop, length}
use Rattle.std.specs.List.{after_first, before_first, position_or_len, slice_split}

abbrev pub is_byte : ℕ → ℕ → Bool
is_byte separator byte = byte == separator

-- bytes without the separator are one part
pub record IsOnePart (separator : ℕ) (bytes : List ℕ) : Type 0 where
  pub before : before_first (is_byte separator) bytes ≡ bytes
  pub after : after_first (is_byte separator) bytes ≡ []
  pub parts : slice_split (is_byte separator) bytes ≡ bytes ∷ []

-- the bytes before the first separator, which are the first part, and those behind it
pub record IsCut (separator : ℕ) (bytes before after : List ℕ) : Type 0 where
  pub before_is : before ≡ before_first (is_byte separator) bytes
  pub after_is : after ≡ after_first (is_byte separator) bytes
  pub from : drop (position_or_len (is_byte separator) bytes) bytes ≡ separator ∷ after
  pub parts : slice_split (is_byte separator) bytes ≡ before ∷ slice_split (is_byte separator) after
  pub shorter : length after < length bytes
