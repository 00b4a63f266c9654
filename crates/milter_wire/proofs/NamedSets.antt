-- A text that names a set of bits is UTF-8, and the set has bits of the table alone.
use Rattle.std.proofs.Common.{◌≡◌, ℕ, zero, suc, ◌<◌, ◌^◌, min, max, ◌==◌, ◌&&◌, Bool, true, false, List, [], ◌∷◌, Option, Some, None, refl, sym, ap, subst, ◌∙◌, arith}
use Rattle.std.specs.Prelude.{codes, nat_eq, nat_lt, IsAscii, IsUtf8, option_map, if◌then◌else◌, length}
use Rattle.std.specs.Cmp.Lexicographic.{pointwise, same_text}
use Rattle.std.specs.List.{join_with_byte, list_all}
use Rattle.std.specs.Int.{bit_at}
use Rattle.std.specs.Int.RustNames.{bit_and, bit_or}
use Rattle.std.proofs.lemmas.Bool.{and_parts, eq-eqb, eqb-true, lt-ltb, ltb-true}
use Rattle.std.proofs.lemmas.List.Splits.{join_with_byte-slice_split}
use Rattle.std.proofs.lemmas.Nat.{or_of_32}
use Rattle.std.proofs.lemmas.Nat.Bits.{bit_at_and, bit_at_or, same_from_bits}
use Rattle.std.proofs.lemmas.Option.{same_Some}
use Rattle.std.proofs.lemmas.Str.{IsUtf8-append, IsUtf8-from_ascii}
use Rattle.bitflags.specs.Sets.{Row, find_name, find_row}
use Rattle.milter_fields.specs.Bind.{◌>>=◌}
use Rattle.milter_fields.proofs.Binds.{bind_some}
use Rattle.milter_wire.specs.Bits.{actions_table, bits_named, each_found, is_within, names_in, protocol_table, with_bits}

-- ---- ASCII

abbrev is_ascii_text : List ℕ → Bool
is_ascii_text text = list_all (λ byte. nat_lt byte 128) text

each_ascii : (text : List ℕ) → is_ascii_text text ≡ true → IsAscii text
each_ascii [] test i = omega arith
each_ascii (byte ∷ text) test zero = ltb-true byte 128 (and_parts (nat_lt byte 128) (is_ascii_text text) test).0
each_ascii (byte ∷ text) test (suc i) =
    each_ascii text (and_parts (nat_lt byte 128) (is_ascii_text text) test).1 i

ascii_utf8 : (text : List ℕ) → is_ascii_text text ≡ true → IsUtf8 text
ascii_utf8 text test = IsUtf8-from_ascii text (each_ascii text test)

-- ---- rows

-- a name in ASCII, of bits of `all`
abbrev fits_row : ℕ → Row → Bool
fits_row all row = is_ascii_text row.0 && is_within all row.1

fit_by : (all : ℕ) (row : Row) (rest : List Row) (name : List ℕ) (bit : ℕ) (same : Bool)
    → pointwise nat_eq row.0 name ≡ same → fits_row all row ≡ true
    → (find_row rest name ≡ Some bit → fits_row all (name, bit) ≡ true)
    → (if same then Some row.1 else find_row rest name) ≡ Some bit → fits_row all (name, bit) ≡ true
fit_by all row rest name bit true same fits later found =
    subst (λ b. fits_row all (name, b) ≡ true) (same_Some row.1 bit found)
    (subst (λ n. fits_row all (n, row.1) ≡ true) (same_text row.0 name (sym same)) fits)
fit_by all row rest name bit false same fits later found = later found

row_fits : (all : ℕ) (table : List Row) (name : List ℕ) (bit : ℕ) → list_all (fits_row all) table ≡ true
    → find_row table name ≡ Some bit → fits_row all (name, bit) ≡ true
unfolding find_row
row_fits all [] name bit fits found = absurd cc
row_fits all (row ∷ rest) name bit fits found =
    let both = and_parts (fits_row all row) (list_all (fits_row all) rest) fits in
    fit_by all row rest name bit (pointwise nat_eq row.0 name) refl both.0
    (row_fits all rest name bit both.1) found

name_fits : (all : ℕ) (table : List Row) (name : List ℕ) (bit : ℕ) → list_all (fits_row all) table ≡ true
    → find_name table name ≡ Some bit → fits_row all (name, bit) ≡ true
name_fits all table name bit fits found = by_length (length name == 0) found
  where
    by_length : (empty : Bool) → (if empty then None else find_row table name) ≡ Some bit
        → fits_row all (name, bit) ≡ true
    by_length true e = absurd cc
    by_length false e = row_fits all table name bit fits e

-- ---- bits of a set

bit_kept : (all a i : ℕ) → bit_and a all ≡ a → min (bit_at a i) (bit_at all i) ≡ bit_at a i
bit_kept all a i e = sym (bit_at_and a all i) ∙ ap (λ (n : ℕ). bit_at n i) e

greater_kept : (all a b i : ℕ) → bit_and a all ≡ a → bit_and b all ≡ b
    → min (max (bit_at a i) (bit_at b i)) (bit_at all i) ≡ max (bit_at a i) (bit_at b i)
greater_kept all a b i p q = omega (arith, bit_kept all a i p, bit_kept all b i q)

kept_or : (all a b : ℕ) → bit_and a all ≡ a → bit_and b all ≡ b → bit_and (bit_or a b) all ≡ bit_or a b
kept_or all a b p q =
    same_from_bits (bit_and (bit_or a b) all) (bit_or a b) (λ i.
    bit_at_and (bit_or a b) all i
    ∙ ap (λ (n : ℕ). min n (bit_at all i)) (bit_at_or a b i)
    ∙ greater_kept all a b i p q
    ∙ sym (bit_at_or a b i))

within_by : (all bits : ℕ) → bit_and bits all ≡ bits → bits < 2 ^ 32 → is_within all bits ≡ true
within_by all bits e lt = rw (eq-eqb (bit_and bits all) bits e, lt-ltb bits (2 ^ 32) lt) refl

pub within_or : (all a b : ℕ) → is_within all a ≡ true → is_within all b ≡ true → is_within all (bit_or a b) ≡ true
within_or all a b p q =
    let p = and_parts (bit_and a all == a) (nat_lt a (2 ^ 32)) p in
    let q = and_parts (bit_and b all == b) (nat_lt b (2 ^ 32)) q in
    within_by all (bit_or a b) (kept_or all a b (eqb-true _ _ p.0) (eqb-true _ _ q.0))
    (or_of_32 a b (ltb-true a (2 ^ 32) p.1) (ltb-true b (2 ^ 32) q.1))

pub within_all : (all set : ℕ) (bits : List ℕ) → is_within all set ≡ true → list_all (is_within all) bits ≡ true
    → is_within all (with_bits set bits) ≡ true
unfolding with_bits
within_all all set [] p q = p
within_all all set (bit ∷ bits) p q =
    let both = and_parts (is_within all bit) (list_all (is_within all) bits) q in
    within_all all (bit_or set bit) bits (within_or all set bit p both.0) both.1

-- ---- texts

-- names in UTF-8, and their bits
record AreFound (all : ℕ) (names : List (List ℕ)) (bits : List ℕ) : Type 0 where
  joined : IsUtf8 (join_with_byte 124 names)
  within : list_all (is_within all) bits ≡ true

join_utf8 : (name : List ℕ) (names : List (List ℕ)) → IsUtf8 name → IsUtf8 (join_with_byte 124 names)
    → IsUtf8 (join_with_byte 124 (name ∷ names))
join_utf8 name [] p q = p
join_utf8 name (next ∷ names) p q =
    IsUtf8-append name (124 ∷ join_with_byte 124 (next ∷ names)) p
    (IsUtf8-append (124 ∷ []) (join_with_byte 124 (next ∷ names)) (ascii_utf8 (124 ∷ []) refl) q)

are_found : (all : ℕ) (table : List Row) (names : List (List ℕ)) (bits : List ℕ) → list_all (fits_row all) table ≡ true
    → each_found table names ≡ Some bits → AreFound all names bits
unfolding each_found
are_found all table [] bits fits e =
    subst (AreFound all []) (same_Some [] bits e) record { joined = ([], (refl, refl)); within = refl }
are_found all table (name ∷ names) bits fits e =
    let b = bind_some (find_name table name) (λ bit. each_found table names >>= λ bits. Some (bit ∷ bits)) bits e in
    let others = bind_some (each_found table names) (λ bits. Some (b.0 ∷ bits)) bits b.2 in
    let row = name_fits all table name b.0 fits b.1 in
    let both = and_parts (is_ascii_text name) (is_within all b.0) row in
    let rest = are_found all table names others.0 fits others.1 in
    subst (AreFound all (name ∷ names)) (same_Some (b.0 ∷ others.0) bits others.2) record {
      joined = join_utf8 name names (ascii_utf8 name both.0) rest.joined;
      within = rw (both.1, rest.within) refl;
    }

-- what a text that names a set is
pub record IsNamed (all : ℕ) (text : List ℕ) (set : ℕ) : Type 0 where
  pub utf8 : IsUtf8 text
  pub within : is_within all set ≡ true

found_is : (all : ℕ) (table : List Row) (text : List ℕ) (set : ℕ) (found : Option (List ℕ))
    → list_all (fits_row all) table ≡ true → each_found table (names_in text) ≡ found
    → option_map (with_bits 0) found ≡ Some set → IsNamed all text set
found_is all table text set None fits e h = absurd cc
found_is all table text set (Some bits) fits e h =
    let f = are_found all table (names_in text) bits fits e in
    record {
      utf8 = subst IsUtf8 (join_with_byte-slice_split 124 text) f.joined;
      within = subst (λ s. is_within all s ≡ true) (same_Some (with_bits 0 bits) set h) (within_all all 0 bits refl f.within);
    }

named_by : (all : ℕ) (table : List Row) (text : List ℕ) (set : ℕ) (none : Bool)
    → list_all (fits_row all) table ≡ true → pointwise nat_eq text (codes "none") ≡ none
    → (if none then Some 0 else option_map (with_bits 0) (each_found table (names_in text))) ≡ Some set
    → IsNamed all text set
named_by all table text set true fits same e =
    record {
      utf8 = subst IsUtf8 (sym (same_text text (codes "none") (sym same))) (ascii_utf8 (codes "none") refl);
      within = subst (λ s. is_within all s ≡ true) (same_Some 0 set e) refl;
    }
named_by all table text set false fits same e =
    found_is all table text set (each_found table (names_in text)) fits refl e

named : (all : ℕ) (table : List Row) (text : List ℕ) (set : ℕ) → list_all (fits_row all) table ≡ true
    → bits_named table text ≡ Some set → IsNamed all text set
named all table text set fits e = named_by all table text set (pointwise nat_eq text (codes "none")) fits refl e

pub actions_named : (text : List ℕ) (set : ℕ) → bits_named actions_table text ≡ Some set → IsNamed 511 text set
actions_named text set e = named 511 actions_table text set refl e

pub protocol_named : (text : List ℕ) (set : ℕ) → bits_named protocol_table text ≡ Some set → IsNamed 2095103 text set
protocol_named text set e = named 2095103 protocol_table text set refl e
