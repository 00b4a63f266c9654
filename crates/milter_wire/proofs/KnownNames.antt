-- The text of the names of a set of known bits names the set.
use Rattle.std.proofs.Common.{◌≡◌, ◌≢◌, ◌==◌, ◌&&◌, ℕ, ◌*◌, ◌<◌, ◌^◌, min, max, Bool, true, false, not, List, [], ◌∷◌}
use Rattle.std.proofs.Common.{All, Option, Some, None, ap, arith, map, refl, subst, sym, ◌∙◌, inl, inr}
use lib.Count.{count_trailing_zeros}
use Rattle.std.specs.Prelude.{codes, option_map}
use Rattle.std.specs.Int.{bit_at, trailing_zeros}
use Rattle.std.specs.Int.RustNames.{bit_and, bit_or}
use Rattle.std.specs.List.{filter, join_with_byte, list_all}
use Rattle.std.proofs.Common.{w32}
use Rattle.std.proofs.lemmas.Bool.{and_from, and_parts, cases_Bool, cases_lt, eq-eqb, eqb-true, false≢true, not-true}
use Rattle.std.proofs.lemmas.List.Elements.{All-cons, All-nil}
use Rattle.std.proofs.lemmas.List.Splits.{slice_split_at, slice_split_none}
use Rattle.std.proofs.lemmas.Nat.Bits.{and_pow, bit_at_and, bit_at_or, bit_at-lt, bit_at-zero, same_from_bits}
use Rattle.std.proofs.lemmas.Option.{none-some}
use Rattle.bitflags.specs.Sets.{Row, find_name, find_row, known_bits, known_from}
use Rattle.milter_wire.specs.Bits.{actions_table, bits_named, each_found, names_in, names_joined, names_text}
use Rattle.milter_wire.specs.Bits.{protocol_table, with_bits}
use Rattle.milter_wire.proofs.SetLaws.{not_none}

-- ---- the rows of a table

abbrev is_value : Option ℕ → ℕ → Bool
is_value None bits = false
is_value (Some value) bits = value == bits

abbrev has_no_bar : List ℕ → Bool
has_no_bar name = list_all (λ byte. not (byte == 124)) name

-- one bit, whose name has no bar and is of no row before it
abbrev is_row : List Row → Row → Bool
is_row table row =
    (row.1 == 2 ^ trailing_zeros w32 row.1) && (is_value (find_name table row.0) row.1 && has_no_bar row.0)

abbrev are_rows : List Row → List Row → Bool
are_rows table rows = list_all (is_row table) rows

record IsRow (table : List Row) (row : Row) : Type 0 where
  one : row.1 ≡ 2 ^ trailing_zeros w32 row.1
  found : find_name table row.0 ≡ Some row.1
  no_bar : has_no_bar row.0 ≡ true

value_is : (found : Option ℕ) (bits : ℕ) → is_value found bits ≡ true → found ≡ Some bits
value_is None bits e = absurd cc
value_is (Some value) bits e = ap (λ (n : ℕ). Some n) (eqb-true value bits e)

row_is : (table : List Row) (row : Row) → is_row table row ≡ true → IsRow table row
row_is table row e =
    let first = and_parts (row.1 == 2 ^ trailing_zeros w32 row.1) _ e in
    let others = and_parts (is_value (find_name table row.0) row.1) (has_no_bar row.0) first.1 in
    record {
      one = eqb-true row.1 (2 ^ trailing_zeros w32 row.1) first.0;
      found = value_is (find_name table row.0) row.1 others.0;
      no_bar = others.1;
    }

rows_kept : (table rows : List Row) (f : Row → Bool) → are_rows table rows ≡ true
    → are_rows table (filter f rows) ≡ true
rows_kept table [] f e = refl
rows_kept table (row ∷ rows) f e =
    let both = and_parts (is_row table row) (are_rows table rows) e in
    let rest = rows_kept table rows f both.1 in
    elim (cases_Bool (f row)) [
      | inl is ↦ rw is (and_from (is_row table row) (are_rows table (filter f rows)) both.0 rest)
      | inr is ↦ rw is rest
    ]

-- ---- names between bars

no_bars : (name : List ℕ) → has_no_bar name ≡ true → All (λ byte. (byte == 124) ≡ false) name
no_bars [] e = All-nil (λ byte. (byte == 124) ≡ false)
no_bars (byte ∷ name) e =
    let both = and_parts (not (byte == 124)) (has_no_bar name) e in
    All-cons (λ b. (b == 124) ≡ false) byte name (not-true (byte == 124) both.0) (no_bars name both.1)

names_back : (table : List Row) (row : Row) (rows : List Row) → are_rows table (row ∷ rows) ≡ true
    → names_in (join_with_byte 124 (row.0 ∷ map (λ r. r.0) rows)) ≡ row.0 ∷ map (λ r. r.0) rows
names_back table row [] e =
    let is = row_is table row (and_parts (is_row table row) true e).0 in
    slice_split_none (λ byte. byte == 124) row.0 (no_bars row.0 is.no_bar)
names_back table row (next ∷ rows) e =
    let both = and_parts (is_row table row) (are_rows table (next ∷ rows)) e in
    let is = row_is table row both.0 in
    slice_split_at (λ byte. byte == 124) row.0 124 (join_with_byte 124 (next.0 ∷ map (λ r. r.0) rows))
    (no_bars row.0 is.no_bar) refl
    ∙ ap (λ names. row.0 ∷ names) (names_back table next rows both.1)

-- ---- the set of the names

each_row : (table rows : List Row) → are_rows table rows ≡ true
    → each_found table (map (λ r. r.0) rows) ≡ Some (map (λ r. r.1) rows)
unfolding each_found
each_row table [] e = refl
each_row table (row ∷ rows) e =
    let both = and_parts (is_row table row) (are_rows table rows) e in
    rw ((row_is table row both.0).found, each_row table rows both.1) refl

first_name : (x y : List ℕ) (xs ys : List (List ℕ)) → x ∷ xs ≡ y ∷ ys → x ≡ y
first_name x y xs ys e = cc

-- a name of the table is not `none`, nor are names of it joined
not_joined : (table : List Row) (row : Row) (rows : List Row) → find_name table (codes "none") ≡ None
    → are_rows table (row ∷ rows) ≡ true → join_with_byte 124 (row.0 ∷ map (λ r. r.0) rows) ≢ codes "none"
not_joined table row rows none e = λ same.
    let is = row_is table row (and_parts (is_row table row) (are_rows table rows) e).0 in
    let names = sym (names_back table row rows e) ∙ ap names_in same in
    let name : row.0 ≡ codes "none" = first_name row.0 (codes "none") (map (λ r. r.0) rows) [] names in
    none-some row.1 (sym none ∙ ap (find_name table) (sym name) ∙ is.found)

no_name : (table : List Row) → bits_named table (codes "none") ≡ Some (with_bits 0 [])
unfolding with_bits
no_name table = refl

text_named : (table rows : List Row) → find_name table (codes "none") ≡ None → are_rows table rows ≡ true
    → bits_named table (names_joined (map (λ r. r.0) rows)) ≡ Some (with_bits 0 (map (λ r. r.1) rows))
text_named table [] none e = no_name table
text_named table (row ∷ rows) none e =
    let text = join_with_byte 124 (row.0 ∷ map (λ r. r.0) rows) in
    not_none text (Some 0) (option_map (with_bits 0) (each_found table (names_in text)))
    (not_joined table row rows none e)
    ∙ ap (λ names. option_map (with_bits 0) (each_found table names)) (names_back table row rows e)
    ∙ ap (option_map (with_bits 0)) (each_row table (row ∷ rows) e)

-- ---- the bits of the set

least_of_most : (x y z : ℕ) → min x (max y z) ≡ max (min x y) (min x z)
least_of_most x y z = omega arith

and_or : (set a b : ℕ) → bit_and set (bit_or a b) ≡ bit_or (bit_and set a) (bit_and set b)
and_or set a b =
    same_from_bits (bit_and set (bit_or a b)) (bit_or (bit_and set a) (bit_and set b)) (λ i.
    bit_at_and set (bit_or a b) i
    ∙ ap (λ n. min (bit_at set i) n) (bit_at_or a b i)
    ∙ least_of_most (bit_at set i) (bit_at a i) (bit_at b i)
    ∙ sym (
    bit_at_or (bit_and set a) (bit_and set b) i
    ∙ ap (λ n. max n (bit_at (bit_and set b) i)) (bit_at_and set a i)
    ∙ ap (λ n. max (min (bit_at set i) (bit_at a i)) n) (bit_at_and set b i)
    ))

most_of_none : (x y : ℕ) → y ≡ 0 → max x y ≡ x
most_of_none x y e = omega (arith, e)

least_of_none : (x y : ℕ) → y ≡ 0 → min x y ≡ y
least_of_none x y e = omega (arith, e)

or_zero : (a : ℕ) → bit_or a 0 ≡ a
or_zero a =
    same_from_bits (bit_or a 0) a (λ i. bit_at_or a 0 i ∙ most_of_none (bit_at a i) (bit_at 0 i) (bit_at-zero i))

and_zero : (a : ℕ) → bit_and a 0 ≡ 0
and_zero a =
    same_from_bits (bit_and a 0) 0 (λ i. bit_at_and a 0 i ∙ least_of_none (bit_at a i) (bit_at 0 i) (bit_at-zero i))

no_times : (n : ℕ) → 0 * n ≡ 0
no_times n = omega arith

no_part : (x k m : ℕ) → x < 2 → (x ≡ 1 → ⊥) → m ≡ x * 2 ^ k → m ≡ 0
no_part x k m lt none e =
    elim (cases_lt x 1) [
      | inl low ↦ let zero : x ≡ 0 = omega (arith, low) in e ∙ ap (λ n. n * 2 ^ k) zero ∙ no_times (2 ^ k)
      | inr high ↦ absurd (none (omega (arith, lt, high)))
    ]

one_time : (x n : ℕ) → x ≡ 1 → x * n ≡ n
one_time x n e = ap (λ m. m * n) e ∙ omega arith

-- a set that doesn't have all of one bit has none of it
and_other : (set k : ℕ) → (bit_and set (2 ^ k) == 2 ^ k) ≡ false → bit_and set (2 ^ k) ≡ 0
and_other set k other =
    no_part (bit_at set k) k (bit_and set (2 ^ k)) (bit_at-lt set k)
    (λ one. false≢true (sym other
    ∙ eq-eqb (bit_and set (2 ^ k)) (2 ^ k) (and_pow set k ∙ one_time (bit_at set k) (2 ^ k) one)))
    (and_pow set k)

abbrev bits_in : ℕ → List Row → List ℕ
bits_in set rows = map (λ r. r.1) (filter (λ row. bit_and set row.1 == row.1) rows)

-- the bits of those rows that the set has
rows_bits : (table : List Row) (set so_far : ℕ) (rows : List Row) → are_rows table rows ≡ true
    → with_bits (bit_and set so_far) (bits_in set rows) ≡ bit_and set (known_from so_far rows)
unfolding known_from with_bits
rows_bits table set so_far [] e = refl
rows_bits table set so_far (row ∷ rows) e =
    let both = and_parts (is_row table row) (are_rows table rows) e in
    let is = row_is table row both.0 in
    let k = trailing_zeros w32 row.1 in
    let rest = rows_bits table set (bit_or so_far row.1) rows both.1 in
    elim (cases_Bool (bit_and set row.1 == row.1)) [
      | inl has ↦
          let part : bit_or (bit_and set so_far) row.1 ≡ bit_and set (bit_or so_far row.1) =
          ap (bit_or (bit_and set so_far)) (sym (eqb-true (bit_and set row.1) row.1 has))
          ∙ sym (and_or set so_far row.1) in
          rw has (ap (λ n. with_bits n (bits_in set rows)) part ∙ rest)
      | inr lacks ↦
          let none : bit_and set row.1 ≡ 0 =
          ap (bit_and set) is.one
          ∙ and_other set k (subst (λ n. (bit_and set n == n) ≡ false) is.one lacks) in
          let part : bit_and set so_far ≡ bit_and set (bit_or so_far row.1) =
          sym (and_or set so_far row.1 ∙ ap (bit_or (bit_and set so_far)) none ∙ or_zero (bit_and set so_far)) in
          rw lacks (ap (λ n. with_bits n (bits_in set rows)) part ∙ rest)
    ]

set_back : (table : List Row) (set : ℕ) → are_rows table table ≡ true → bit_and set (known_bits table) ≡ set
    → with_bits 0 (bits_in set table) ≡ set
set_back table set e known =
    ap (λ n. with_bits n (bits_in set table)) (sym (and_zero set)) ∙ rows_bits table set 0 table e ∙ known

named_back : (table : List Row) (set : ℕ) → find_name table (codes "none") ≡ None → are_rows table table ≡ true
    → bit_and set (known_bits table) ≡ set → bits_named table (names_text table set) ≡ Some set
named_back table set none e known =
    let in_set = λ (row : Row). bit_and set row.1 == row.1 in
    text_named table (filter in_set table) none (rows_kept table table in_set e)
    ∙ ap (λ (n : ℕ). Some n) (set_back table set e known)

-- ---- the tables

actions_rows : are_rows actions_table actions_table ≡ true
unfolding find_row count_trailing_zeros
actions_rows = refl

no_action : find_name actions_table (codes "none") ≡ None
unfolding find_row
no_action = refl

protocol_rows : are_rows protocol_table protocol_table ≡ true
unfolding find_row count_trailing_zeros
protocol_rows = refl

no_step : find_name protocol_table (codes "none") ≡ None
unfolding find_row
no_step = refl

pub actions_back : (set : ℕ) → bit_and set (known_bits actions_table) ≡ set
    → bits_named actions_table (names_text actions_table set) ≡ Some set
actions_back set known = named_back actions_table set no_action actions_rows known

pub protocol_back : (set : ℕ) → bit_and set (known_bits protocol_table) ≡ set
    → bits_named protocol_table (names_text protocol_table set) ≡ Some set
protocol_back set known = named_back protocol_table set no_step protocol_rows known

-- ---- by the number of all bits

pub actions_within : (set : ℕ) → bit_and set 511 ≡ set
    → bits_named actions_table (names_text actions_table set) ≡ Some set
unfolding known_from
actions_within set known = actions_back set known

pub protocol_within : (set : ℕ) → bit_and set 2095103 ≡ set
    → bits_named protocol_table (names_text protocol_table set) ≡ Some set
unfolding known_from
protocol_within set known = protocol_back set known
