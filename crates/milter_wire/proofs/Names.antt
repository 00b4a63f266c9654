-- How the reading of a set moves along its text.
use Rattle.std.proofs.Common.{◌≡◌, ◌<◌, ◌==◌, ℕ, List, [], ◌∷◌, Option, Some, None, length, refl, arith}
use Rattle.std.specs.Prelude.{option_map}
use Rattle.std.specs.List.{after_first, before_first, position_or_len}
use Rattle.std.specs.Int.RustNames.{bit_or}
use Rattle.std.proofs.lemmas.List.Sums.{fails_before_first}
use Rattle.std.proofs.lemmas.List.Splits.{slice_split_first, slice_split_none}
use Rattle.bitflags.specs.Sets.{Row, find_name}
use Rattle.milter_wire.specs.Bits.{each_found, names_in, with_bits}
use Rattle.milter_fields.specs.Bind.{◌>>=◌}

-- the set of the names of a text, after this one
abbrev pub set_with : List Row → ℕ → List ℕ → Option ℕ
set_with table set text = option_map (with_bits set) (each_found table (names_in text))

onto_found : (set bit : ℕ) (found : Option (List ℕ)) → option_map (with_bits set) (found >>= λ bits. Some (bit ∷ bits)) ≡ option_map (with_bits (bit_or set bit)) found
unfolding with_bits
onto_found set bit None = refl
onto_found set bit (Some bits) = refl

-- the first name adds its bit
pub set_with-first : (table : List Row) (set bit : ℕ) (text name more : List ℕ) → position_or_len (λ x. x == 124) text < length text → name ≡ before_first (λ x. x == 124) text
    → more ≡ after_first (λ x. x == 124) text → Some bit ≡ find_name table name → set_with table set text ≡ set_with table (bit_or set bit) more
unfolding each_found
set_with-first table set bit text name more at n m found = rw (slice_split_first (λ x. x == 124) text 0 at, ← n, ← m, ← found) (onto_found set bit (each_found table (names_in more)))

-- a first name that is no bit's
pub set_with-unknown : (table : List Row) (set : ℕ) (text name : List ℕ) → position_or_len (λ x. x == 124) text < length text → name ≡ before_first (λ x. x == 124) text
    → None ≡ find_name table name → set_with table set text ≡ None
unfolding each_found
set_with-unknown table set text name at n found = rw (slice_split_first (λ x. x == 124) text 0 at, ← n, ← found) refl

names_in-one : (text : List ℕ) → position_or_len (λ x. x == 124) text ≡ length text → names_in text ≡ text ∷ []
names_in-one text at = slice_split_none (λ x. x == 124) text (λ k d lt. fails_before_first (λ x. x == 124) text k d (omega arith))

-- the last name adds its bit
pub set_with-last : (table : List Row) (set bit : ℕ) (text : List ℕ) → position_or_len (λ x. x == 124) text ≡ length text → Some bit ≡ find_name table text → set_with table set text ≡ Some (bit_or set bit)
unfolding each_found with_bits
set_with-last table set bit text at found = rw (names_in-one text at, ← found) refl

-- a last name that is no bit's
pub set_with-unknown_last : (table : List Row) (set : ℕ) (text : List ℕ) → position_or_len (λ x. x == 124) text ≡ length text → None ≡ find_name table text → set_with table set text ≡ None
unfolding each_found
set_with-unknown_last table set text at found = rw (names_in-one text at, ← found) refl
