-- Texts in lower case.
use Rattle.std.proofs.Common.{◌≡◌, ℕ, zero, suc, true, List, [], ◌∷◌, length, map, take, refl, ap}
use Rattle.std.proofs.lemmas.List.{length-map}
use Rattle.std.specs.Str.{str_to_ascii_lowercase}
use Rattle.milter_filter_search.specs.Texts.{begins_with, contains}

map_take : (f : ℕ → ℕ) (n : ℕ) (bytes : List ℕ) → map f (take n bytes) ≡ take n (map f bytes)
map_take f zero bytes = refl
map_take f (suc n) [] = refl
map_take f (suc n) (byte ∷ bytes) = ap (λ rest. f byte ∷ rest) (map_take f n bytes)

-- a text in lower case is as long as it was, and so is what it is compared with
pub lower_take : (bytes text : List ℕ) → str_to_ascii_lowercase (take (length text) bytes)
    ≡ take (length (str_to_ascii_lowercase text)) (str_to_ascii_lowercase bytes)
lower_take bytes text = rw (length-map text _) (map_take _ (length text) bytes)

-- bytes have the text that they begin with
pub contains_here : (bytes text : List ℕ) → begins_with bytes text ≡ true → contains bytes text ≡ true
contains_here [] text begins = begins
contains_here (byte ∷ bytes) text begins = rw begins refl
