-- The header fields of one name, and all others.
use Rattle.std.specs.Prelude.{ℕ, not, List, [], ◌∷◌, map}
use Rattle.std.specs.List.{filter}
use Rattle.std.specs.Str.{str_eq_ignore_ascii_case}
use Rattle.milter_fields.specs.declared.header.Header.{Header}

-- the values of the fields of a name, in order, without regard to ASCII case
abbrev pub values_of : List ℕ → List Header → List (List ℕ)
values_of name headers =
    map (λ header. header.value) (filter (λ header. str_eq_ignore_ascii_case header.name name) headers)

-- the fields of other names
abbrev pub others_than : List ℕ → List Header → List Header
others_than name headers = filter (λ header. not (str_eq_ignore_ascii_case header.name name)) headers

-- a value, but for the empty one, which stands for none
abbrev pub value_if_any : List ℕ → List (List ℕ)
value_if_any [] = []
value_if_any (byte ∷ bytes) = (byte ∷ bytes) ∷ []
