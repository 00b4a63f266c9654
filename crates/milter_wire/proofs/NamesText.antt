-- The text of a set of bits, one more row of the table at a time.
use Rattle.std.proofs.Common.{◌≡◌, ◌==◌, ℕ, ◌+◌, ◌<◌, ◌≤◌, Bool, true, false, List, [], ◌∷◌, ◌++◌, map, length, take, drop, get_or, take-append-drop, refl, sym, ap, ◌∙◌, append_assoc, append-nil, arith}
use Rattle.std.specs.Prelude.{codes, if◌then◌else◌}
use Rattle.std.specs.List.{filter, join_with_byte}
use Rattle.std.specs.Int.RustNames.{bit_and}
use Rattle.std.proofs.lemmas.List.{get_or-map, length-map, map-append, take_all, take_more}
use Rattle.std.proofs.lemmas.List.Elements.{filter-append}
use Rattle.std.proofs.Math.Seq.{take-append_seam}
use Rattle.bitflags.specs.Sets.{Row}
use Rattle.milter_fields.specs.AppendedBytes.{Extends}
use Rattle.milter_wire.specs.Bits.{names_joined, names_of, names_text}

abbrev pub are_none : List (List ℕ) → Bool
are_none [] = true
are_none (name ∷ names) = false

-- a name, after a bar unless it is the first
abbrev pub next_part : Bool → List ℕ → List ℕ
next_part is_first name = if is_first then name else 124 ∷ name

-- ---- appending

-- bytes that begin with the old ones still do after more are appended
pub extends_by : (old before after bytes : List ℕ) → Extends old before → after ≡ before ++ bytes → Extends old after
extends_by old before after bytes h e =
    let rest = drop (length old) before in
    let parts : before ≡ old ++ rest = sym (take-append-drop (length old) before) ∙ ap (λ (l : List ℕ). l ++ rest) h in
    let whole : after ≡ old ++ (rest ++ bytes) = e ∙ ap (λ (l : List ℕ). l ++ bytes) parts ∙ append_assoc old rest bytes in
    ap (take (length old)) whole ∙ take-append_seam old (rest ++ bytes)

-- ---- names joined

join_more : (names : List (List ℕ)) (name : List ℕ) → join_with_byte 124 (names ++ name ∷ []) ≡ join_with_byte 124 names ++ next_part (are_none names) name
join_more [] name = refl
join_more (x ∷ []) name = refl
join_more (x ∷ y ∷ xs) name =
    ap (λ (l : List ℕ). x ++ 124 ∷ l) (join_more (y ∷ xs) name) ∙ sym (append_assoc x (124 ∷ join_with_byte 124 (y ∷ xs)) (124 ∷ name))

none_more : (names : List (List ℕ)) (name : List ℕ) → are_none (names ++ name ∷ []) ≡ false
none_more [] name = refl
none_more (x ∷ xs) name = refl

pub joined_some : (names : List (List ℕ)) → are_none names ≡ false → names_joined names ≡ join_with_byte 124 names
joined_some [] e = absurd cc
joined_some (x ∷ xs) e = refl

-- ---- the first rows of a table

-- the names of the set's bits in the first rows, as they were written so far
pub record Written (table : List Row) (set : ℕ) (old new : List ℕ) (is_first : Bool) : Type 0 where
  pub bytes : new ≡ old ++ join_with_byte 124 (names_of table set)
  pub first : is_first ≡ are_none (names_of table set)

pub written_none : (set : ℕ) (old : List ℕ) → Written [] set old old true
written_none set old = record { bytes = sym (append-nil old); first = refl }

names_more : (table : List Row) (row : Row) (set : ℕ) → names_of (table ++ row ∷ []) set ≡ names_of table set ++ names_of (row ∷ []) set
names_more table row set =
    ap (map (λ (r : Row). r.0)) (filter-append (λ (r : Row). bit_and set r.1 == r.1) table (row ∷ []))
    ∙ map-append (λ (r : Row). r.0) (filter (λ (r : Row). bit_and set r.1 == r.1) table) (filter (λ (r : Row). bit_and set r.1 == r.1) (row ∷ []))

names_with : (table : List Row) (row : Row) (set : ℕ) → (bit_and set row.1 == row.1) ≡ true → names_of (table ++ row ∷ []) set ≡ names_of table set ++ row.0 ∷ []
names_with table row set e = names_more table row set ∙ rw e refl

names_without : (table : List Row) (row : Row) (set : ℕ) → (bit_and set row.1 == row.1) ≡ false → names_of (table ++ row ∷ []) set ≡ names_of table set
names_without table row set e = names_more table row set ∙ rw e (append-nil (names_of table set))

pub written_with : (table : List Row) (row : Row) (set : ℕ) (old new after : List ℕ) (is_first : Bool) → (bit_and set row.1 == row.1) ≡ true → Written table set old new is_first
    → after ≡ new ++ next_part is_first row.0 → Written (table ++ row ∷ []) set old after false
written_with table row set old new after is_first e h put =
    let names = names_with table row set e in
    let part : next_part is_first row.0 ≡ next_part (are_none (names_of table set)) row.0 = ap (λ (b : Bool). next_part b row.0) h.first in
    record {
      bytes =
          put
          ∙ ap (λ (l : List ℕ). l ++ next_part is_first row.0) h.bytes
          ∙ append_assoc old (join_with_byte 124 (names_of table set)) (next_part is_first row.0)
          ∙ ap (λ (l : List ℕ). old ++ (join_with_byte 124 (names_of table set) ++ l)) part
          ∙ ap (λ (l : List ℕ). old ++ l) (sym (join_more (names_of table set) row.0))
          ∙ ap (λ (l : List (List ℕ)). old ++ join_with_byte 124 l) (sym names);
      first = sym (none_more (names_of table set) row.0) ∙ ap are_none (sym names);
    }

pub written_without : (table : List Row) (row : Row) (set : ℕ) (old new : List ℕ) (is_first : Bool) → (bit_and set row.1 == row.1) ≡ false → Written table set old new is_first
    → Written (table ++ row ∷ []) set old new is_first
written_without table row set old new is_first e h =
    let names = sym (names_without table row set e) in
    record {
      bytes = h.bytes ∙ ap (λ (l : List (List ℕ)). old ++ join_with_byte 124 l) names;
      first = h.first ∙ ap are_none names;
    }

-- the rows up to one place more
pub rows_more : {X : Type 0} (view : X → Row) (flags : List X) (table : List Row) (i : ℕ) (x : X) → map view flags ≡ table → i < length flags → x ≡ get_or flags i x
    → take (i + 1) table ≡ take i table ++ view x ∷ []
rows_more view flags table i x e lt at =
    let size : length table ≡ length flags = ap length (sym e) ∙ length-map flags view in
    let here : get_or table i (view x) ≡ view x = ap (λ (rows : List Row). get_or rows i (view x)) (sym e) ∙ get_or-map view flags i x (view x) lt ∙ ap view (sym at) in
    take_more table i (view x) (omega (arith, lt, size)) ∙ ap (λ (row : Row). take i table ++ row ∷ []) here

-- all rows
pub rows_all : {X : Type 0} (view : X → Row) (flags : List X) (table : List Row) (i : ℕ) → map view flags ≡ table → length flags ≤ i → take i table ≡ table
rows_all view flags table i e le =
    let size : length table ≡ length flags = ap length (sym e) ∙ length-map flags view in
    take_all i table (omega (arith, le, size))

-- the text is written where no row is left
pub written_some : (table : List Row) (set : ℕ) (old new : List ℕ) (is_first : Bool) → is_first ≡ false → Written table set old new is_first → new ≡ old ++ names_text table set
written_some table set old new is_first e h = h.bytes ∙ ap (λ (l : List ℕ). old ++ l) (sym (joined_some (names_of table set) (sym h.first ∙ e)))

no_names : (names : List (List ℕ)) → are_none names ≡ true → names ≡ []
no_names [] e = refl
no_names (x ∷ xs) e = absurd cc

pub written_none_text : (table : List Row) (set : ℕ) (old new after : List ℕ) (is_first : Bool) → is_first ≡ true → Written table set old new is_first → after ≡ new ++ codes "none"
    → after ≡ old ++ names_text table set
written_none_text table set old new after is_first e h put =
    let none = no_names (names_of table set) (sym h.first ∙ e) in
    let same : new ≡ old = h.bytes ∙ ap (λ (l : List (List ℕ)). old ++ join_with_byte 124 l) none ∙ append-nil old in
    put ∙ ap (λ (l : List ℕ). l ++ codes "none") same ∙ ap (λ (l : List (List ℕ)). old ++ names_joined l) (sym none)
