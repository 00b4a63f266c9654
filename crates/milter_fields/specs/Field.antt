-- The fields that payloads are made of.
use Rattle.std.specs.Prelude.{◌≢◌, ℕ, List, [], ◌∷◌, ◌++◌, All}
use Rattle.std.specs.Int.{w16, to_be_bytes}

-- a port in two bytes, the higher first
unfoldable pub port : ℕ → List ℕ
port n = to_be_bytes w16 n

-- a string: a text, and a NUL that ends it
abbrev pub string : List ℕ → List ℕ
string text = text ++ 0 ∷ []

-- a text that a string can carry
unfoldable pub HasNoNul : List ℕ → Type 0
HasNoNul text = All (λ byte. byte ≢ 0) text
