-- A set that a text names has the bits of the names, and no others.
use Rattle.std.proofs.Common.{◌≡◌, ◌≢◌, ℕ, ◌<◌, max, Bool, true, false, List, [], ◌∷◌, Option, Some, None, refl, sym, ap, subst, ◌∙◌, ◌⊎◌, inl, inr, arith}
use Rattle.std.specs.Prelude.{nat_eq, codes, IsSome, option_map, if◌then◌else◌}
use Rattle.std.specs.Cmp.Lexicographic.{pointwise, same_text}
use Rattle.std.specs.Int.{bit_at}
use Rattle.std.specs.Int.RustNames.{bit_or}
use Rattle.std.proofs.lemmas.Bool.{cases_lt}
use Rattle.std.proofs.lemmas.Nat.Bits.{bit_at_or, bit_at-lt, bit_at-zero}
use Rattle.std.proofs.lemmas.Option.{none-some, same_Some}
use Rattle.std.proofs.lemmas.List.Elements.{All-nil, All-cons, All-head, All-tail}
use Rattle.bitflags.specs.Sets.{Row, find_name}
use Rattle.milter_wire.specs.Bits.{AreKnown, IsSetOf, OneNames, bits_named, each_found, names_in, with_bits}
use Rattle.milter_fields.specs.Bind.{◌>>=◌}
use Rattle.milter_fields.proofs.Binds.{bind_some, some_value}

-- ---- the bits of a number

some_of_max : (x y : ℕ) → max x y ≡ 1 → (x ≡ 1) ⊎ (y ≡ 1)
some_of_max x y h =
    elim (cases_lt x y) [
      | inl lt ↦ inr (omega (arith, h))
      | inr le ↦ inl (omega (arith, h))
    ]

max_of_first : (x y : ℕ) → y < 2 → x ≡ 1 → max x y ≡ 1
max_of_first x y lt h = omega (arith, lt, h)

max_of_second : (x y : ℕ) → x < 2 → y ≡ 1 → max x y ≡ 1
max_of_second x y lt h = omega (arith, lt, h)

-- one of these bits has the position
abbrev OneHas : ℕ → List ℕ → Type 0
OneHas position [] = ⊥
OneHas position (bit ∷ bits) = (bit_at bit position ≡ 1) ⊎ OneHas position bits

from_set : (set position : ℕ) (bits : List ℕ) → bit_at (with_bits set bits) position ≡ 1 → (bit_at set position ≡ 1) ⊎ OneHas position bits
unfolding with_bits
from_set set position [] h = inl h
from_set set position (bit ∷ bits) h =
    elim (from_set (bit_or set bit) position bits h) [
      | inl here ↦ elim (some_of_max (bit_at set position) (bit_at bit position) (sym (bit_at_or set bit position) ∙ here)) [
        | inl old ↦ inl old
        | inr new ↦ inr (inl new)
      ]
      | inr others ↦ inr (inr others)
    ]

to_set : (set position : ℕ) (bits : List ℕ) → (bit_at set position ≡ 1) ⊎ OneHas position bits → bit_at (with_bits set bits) position ≡ 1
unfolding with_bits
to_set set position [] (inl h) = h
to_set set position [] (inr h) = absurd h
to_set set position (bit ∷ bits) (inl h) =
    to_set (bit_or set bit) position bits (inl (bit_at_or set bit position ∙ max_of_first (bit_at set position) (bit_at bit position) (bit_at-lt bit position) h))
to_set set position (bit ∷ bits) (inr (inl h)) =
    to_set (bit_or set bit) position bits (inl (bit_at_or set bit position ∙ max_of_second (bit_at set position) (bit_at bit position) (bit_at-lt set position) h))
to_set set position (bit ∷ bits) (inr (inr h)) = to_set (bit_or set bit) position bits (inr h)

-- ---- the bits of names

-- what names and their bits have in common
record Found (table : List Row) (names : List (List ℕ)) (bits : List ℕ) : Type 0 where
  known : AreKnown table names
  to : (position : ℕ) → OneHas position bits → OneNames table position names
  from : (position : ℕ) → OneNames table position names → OneHas position bits

is_some_some : {A : Type 0} (o : Option A) (x : A) → o ≡ Some x → IsSome o
is_some_some o x e = rw e refl

found_more : (table : List Row) (name : List ℕ) (names : List (List ℕ)) (bit : ℕ) (bits : List ℕ) → find_name table name ≡ Some bit → Found table names bits → Found table (name ∷ names) (bit ∷ bits)
found_more table name names bit bits is f = record {
  known = All-cons (λ n. IsSome (find_name table n)) name names (is_some_some (find_name table name) bit is) f.known;
  to = λ position h. elim h [ inl here ↦ inl record { bit = bit; is = is; has = here } | inr others ↦ inr (f.to position others) ];
  from = λ position h. elim h [ inl here ↦ inl (ap (λ (b : ℕ). bit_at b position) (same_Some bit here.bit (sym is ∙ here.is)) ∙ here.has) | inr others ↦ inr (f.from position others) ];
}

found_is : (table : List Row) (names : List (List ℕ)) (bits : List ℕ) → each_found table names ≡ Some bits → Found table names bits
unfolding each_found
found_is table [] bits e =
    subst (Found table []) (same_Some [] bits e) record { known = All-nil (λ n. IsSome (find_name table n)); to = λ position h. h; from = λ position h. h }
found_is table (name ∷ names) bits e =
    let b = bind_some (find_name table name) (λ bit. each_found table names >>= λ bits. Some (bit ∷ bits)) bits e in
    let others = bind_some (each_found table names) (λ bits. Some (b.0 ∷ bits)) bits b.2 in
    subst (Found table (name ∷ names)) (same_Some (b.0 ∷ others.0) bits others.2) (found_more table name names b.0 others.0 b.1 (found_is table names others.0 others.1))

-- ---- the laws

set_of : (table : List Row) (names : List (List ℕ)) (bits : List ℕ) → Found table names bits → IsSetOf table names (with_bits 0 bits)
set_of table names bits f = record {
  known = f.known;
  positions = λ position. (
    λ h. elim (from_set 0 position bits h) [
      | inl zero ↦ absurd (let none = bit_at-zero position in omega (arith, zero, none))
      | inr one ↦ f.to position one
    ],
    λ h. to_set 0 position bits (inr (f.from position h)),
  );
}

mapped : (table : List Row) (names : List (List ℕ)) (set : ℕ) (found : Option (List ℕ)) → each_found table names ≡ found → option_map (with_bits 0) found ≡ Some set → IsSetOf table names set
mapped table names set None e h = absurd cc
mapped table names set (Some bits) e h = subst (IsSetOf table names) (same_Some (with_bits 0 bits) set h) (set_of table names bits (found_is table names bits e))

pub not_none : {A : Type 0} (text : List ℕ) (x y : A) → text ≢ codes "none" → (if pointwise nat_eq text (codes "none") then x else y) ≡ y
not_none text x y other = by_test (pointwise nat_eq text (codes "none")) refl
  where
    by_test : (b : Bool) → pointwise nat_eq text (codes "none") ≡ b → (if pointwise nat_eq text (codes "none") then x else y) ≡ y
    by_test true e = absurd (other (same_text text (codes "none") (sym e)))
    by_test false e = rw e refl

pub names_set : (table : List Row) (text : List ℕ) (set : ℕ) → text ≢ codes "none" → bits_named table text ≡ Some set → IsSetOf table (names_in text) set
names_set table text set other e =
    mapped table (names_in text) set (each_found table (names_in text)) refl (sym (not_none text (Some 0) (option_map (with_bits 0) (each_found table (names_in text))) other) ∙ e)

one_more : (table : List Row) (name : List ℕ) (names : List (List ℕ)) (bit : ℕ) (bits : List ℕ) → find_name table name ≡ Some bit → each_found table names ≡ Some bits
    → each_found table (name ∷ names) ≡ Some (bit ∷ bits)
unfolding each_found
one_more table name names bit bits first others = rw (first, others) refl

each_known : (table : List Row) (names : List (List ℕ)) → AreKnown table names → (bits : List ℕ) × (each_found table names ≡ Some bits)
unfolding each_found
each_known table [] known = ([], refl)
each_known table (name ∷ names) known =
    let b = some_value (find_name table name) (All-head (λ n. IsSome (find_name table n)) name names known) in
    let others = each_known table names (All-tail (λ n. IsSome (find_name table n)) name names known) in
    (b.0 ∷ others.0, one_more table name names b.0 others.0 b.1 others.1)

pub names_known : (table : List Row) (text : List ℕ) → text ≢ codes "none" → bits_named table text ≡ None → ¬ AreKnown table (names_in text)
names_known table text other e = λ known.
    let bits = each_known table (names_in text) known in
    let set : option_map (with_bits 0) (each_found table (names_in text)) ≡ Some (with_bits 0 bits.0) = ap (option_map (with_bits 0)) bits.1 in
    none-some (with_bits 0 bits.0) (sym e ∙ not_none text (Some 0) (option_map (with_bits 0) (each_found table (names_in text))) other ∙ set)
