-- Domains as they are compared: by their labels, RFC 1034, 3.1.
use Rattle.std.specs.Prelude.{ℕ, Bool, List}
use Rattle.std.specs.List.{ends_with, slice_split}
use Rattle.std.specs.Str.{bytes_eq, str_to_ascii_lowercase}
use Rattle.milter_address.specs.Bytes.{is_dot}
use Rattle.milter_address.specs.Trimmed.{trimmed_end}

-- without dots at the end, in lower case
abbrev pub canonical_domain : List ℕ → List ℕ
canonical_domain text = str_to_ascii_lowercase (trimmed_end is_dot text)

-- the labels, which are the parts between dots
abbrev pub labels : List ℕ → List (List ℕ)
labels domain = slice_split is_dot domain

-- the labels of the domain end with those of the parent
abbrev pub is_under : List ℕ → List ℕ → Bool
is_under domain parent = ends_with bytes_eq (labels domain) (labels parent)
