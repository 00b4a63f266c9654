-- How addresses, domains and texts are searched: each entry has a key, and a value is looked up by the keys of the
-- entries that would have it.
use Rattle.std.specs.Prelude.{ℕ, Bool, List, [], ◌∷◌, if◌then◌else◌}
use Rattle.std.specs.List.{list_any}
use Rattle.std.specs.Str.{bytes_eq}
use Rattle.milter_address.specs.Bytes.{is_dot}

-- one of the keys
abbrev pub is_key : List (List ℕ) → List ℕ → Bool
is_key keys key = list_any (bytes_eq key) keys

-- what bytes end with that begins with a dot
abbrev pub dot_suffixes : List ℕ → List (List ℕ)
dot_suffixes [] = []
dot_suffixes (byte ∷ bytes) = if is_dot byte then (byte ∷ bytes) ∷ dot_suffixes bytes else dot_suffixes bytes
