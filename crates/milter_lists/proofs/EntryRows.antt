-- Entries at their places.
use Rattle.std.proofs.Common.{◌≡◌, [], ◌∷◌, refl}
use Rattle.std.specs.Prelude.{codes}
use Rattle.milter_lists.specs.Entries.{bytes_of, entries_of}

in_any_order : entries_of (codes "abc") (record { key = 0; start = 2; len = 1 } ∷ record { key = 0; start = 0; len = 2 } ∷ record { key = 0; start = 3; len = 0 } ∷ [])
    ≡ codes "c" ∷ codes "ab" ∷ [] ∷ []
in_any_order = refl

all_bytes : bytes_of (codes "c" ∷ codes "ab" ∷ [] ∷ []) ≡ 3
all_bytes = refl
