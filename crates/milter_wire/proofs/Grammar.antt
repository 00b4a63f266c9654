-- What `decode` answers, from a decoding that is the encoding's inverse. Both directions use it.
use Rattle.std.proofs.Common.{◌≡◌, ℕ, Bool, true, false, List, [], ◌∷◌, Option, Some, None, Result, Ok, Err, refl, sym, ap, subst, ◌∙◌, inl, inr}
use Rattle.std.specs.Prelude.{◌==◌, ◌||◌, ◌⊎◌, IsTrue, IfOk, MatchResult, ◌↔◌}
use Rattle.std.specs.Option.{option_map}
use Rattle.std.proofs.lemmas.Bool.{eqb-true}
use Rattle.std.proofs.lemmas.Option.{none-some, same_Some}
use Rattle.milter_fields.specs.declared.fault.WireFault.{WireFault}
use Rattle.milter_fields.specs.declared.fault.WireFault.TheVariants.{ZeroLength, TooLong, UnknownCode, Malformed, Truncated, NoMemory}
use Rattle.milter_wire.specs.Tables.{Decodes, Row, has_row, read_by}
use Rattle.milter_fields.specs.Decoders.{ended}
use Rattle.milter_fields.proofs.Binds.{some_value}
use Rattle.milter_fields.proofs.Steps.{chosen, ended_takes}

-- ---- rows of a table

-- a relation between value, code and payload, for what each row of a table decodes
abbrev pub EachRow : {V : Type 0} → (V → ℕ → List ℕ → Type 0) → List ℕ → List (Row V) → Type 0
EachRow {V} Relates payload [] = Unit {0}
EachRow {V} Relates payload (row ∷ rows) = ((v : V) → row.1 payload ≡ Some v → Relates v row.0 payload) × EachRow Relates payload rows

infixr 5 ◌⨾◌
-- one row, and then the others
abbrev pub ◌⨾◌ : {A B : Type 0} → A → B → A × B
row ⨾ others = (row, others)

pub row_relates : {V : Type 0} (Relates : V → ℕ → List ℕ → Type 0) (rows : List (Row V)) (code : ℕ) (payload : List ℕ) (v : V) → EachRow Relates payload rows → read_by rows code payload ≡ Some v → Relates v code payload
row_relates Relates [] code payload v each e = absurd cc
row_relates Relates (row ∷ rows) code payload v each e =
    elim (chosen (code == row.0) (row.1 payload) (read_by rows code payload) (Some v) e) [
      | inl at ↦ subst (λ (n : ℕ). Relates v n payload) (sym (eqb-true code row.0 at.0)) (each.0 v at.1)
      | inr others ↦ row_relates Relates rows code payload v each.1 others.1
    ]

-- a value for each row's code
abbrev pub EachCode : {V : Type 0} → (ℕ → Type 0) → List (Row V) → Type 0
EachCode HasValue [] = Unit {0}
EachCode HasValue (row ∷ rows) = HasValue row.0 × EachCode HasValue rows

either : (b c : Bool) → (b || c) ≡ true → (b ≡ true) ⊎ (c ≡ true)
either true c e = inl refl
either false c e = inr e

pub row_has_value : {V : Type 0} (HasValue : ℕ → Type 0) (rows : List (Row V)) (code : ℕ)
    → EachCode HasValue rows → has_row rows code ≡ true → HasValue code
row_has_value HasValue [] code each e = absurd cc
row_has_value HasValue (row ∷ rows) code each e =
    elim (either (row.0 == code) (has_row rows code) e) [
      | inl at ↦ subst HasValue (eqb-true row.0 code at) each.0
      | inr others ↦ row_has_value HasValue rows code each.1 others
    ]

-- a row whose payload is one field
pub field_row : {A V : Type 0} (Relates : V → Type 0) (make : A → V) (o : Option A) → ((x : A) → o ≡ Some x → Relates (make x)) → (v : V) → option_map make o ≡ Some v → Relates v
field_row Relates make None row v e = absurd cc
field_row Relates make (Some x) row v e = subst Relates (same_Some (make x) v e) (row x refl)

-- a row without a payload
pub empty_row : {V : Type 0} (Relates : V → List ℕ → Type 0) (x : V) (payload : List ℕ) → Relates x [] → (v : V) → ended x payload ≡ Some v → Relates v payload
empty_row {V} Relates x payload row v e =
    let end = ended_takes x payload v e in
    subst (Relates v) (sym end.0) (subst (λ (w : V). Relates w []) end.1 row)

-- a row with any payload
pub bytes_row : {V : Type 0} (Relates : V → Type 0) (x v : V) → Relates x → Some x ≡ Some v → Relates v
bytes_row Relates x v row e = subst Relates (same_Some x v e) row

-- ---- the clauses of `decode`

-- what is decoded of a code and a payload is the value that they encode
pub record Reads {V : Type 0} (known : Bool) (read : Option V) (Encoded : V → Type 0) : Type 0 where
  pub found : (v : V) → read ≡ Some v → Encoded v
  pub only : (v : V) → Encoded v → read ≡ Some v
  pub known_first : (v : V) → read ≡ Some v → known ≡ true

apart : (b : Bool) → b ≡ true → b ≡ false → ⊥
apart b t f = cc

pub is_found : {V : Type 0} (code : ℕ) (known : Bool) (read : Option V) (Encoded : V → Type 0) (r : Result V WireFault) → Reads known read Encoded → Decodes code known read r → IfOk r Encoded
is_found code known read Encoded (Ok v) g d = g.found v d
is_found code known read Encoded (Err e) g d = tt

pub is_only : {V : Type 0} (code : ℕ) (known : Bool) (read : Option V) (Encoded : V → Type 0) (r : Result V WireFault) → Reads known read Encoded → Decodes code known read r
    → (v : V) → Encoded v → MatchResult r (λ w. w ≡ v) (λ e. e ≡ NoMemory)
is_only code known read Encoded (Ok w) g d v s = same_Some w v (sym d ∙ g.only v s)
is_only code known read Encoded (Err ZeroLength) g d v s = absurd d
is_only code known read Encoded (Err (TooLong n)) g d v s = absurd d
is_only code known read Encoded (Err (UnknownCode n)) g d v s = absurd (apart known (g.known_first v (g.only v s)) d.1)
is_only code known read Encoded (Err (Malformed n)) g d v s = absurd (none-some v (sym d.2 ∙ g.only v s))
is_only code known read Encoded (Err (Truncated n)) g d v s = absurd d
is_only code known read Encoded (Err NoMemory) g d v s = refl

pub is_memory : {V : Type 0} (code : ℕ) (known : Bool) (read : Option V) (Encoded : V → Type 0) (r : Result V WireFault) → Reads known read Encoded → Decodes code known read r
    → r ≡ Err NoMemory → (v : V) × Encoded v
is_memory code known read Encoded (Ok w) g d h = absurd cc
is_memory code known read Encoded (Err ZeroLength) g d h = absurd d
is_memory code known read Encoded (Err (TooLong n)) g d h = absurd d
is_memory code known read Encoded (Err (UnknownCode n)) g d h = absurd cc
is_memory code known read Encoded (Err (Malformed n)) g d h = absurd cc
is_memory code known read Encoded (Err (Truncated n)) g d h = absurd d
is_memory code known read Encoded (Err NoMemory) g d h = let x = some_value read d in (x.0, g.found x.0 x.1)

unknown_then : {V : Type 0} (code : ℕ) (known : Bool) (read : Option V) (r : Result V WireFault) → Decodes code known read r → r ≡ Err (UnknownCode code) → ¬ IsTrue known
unknown_then code known read (Ok w) d h = absurd cc
unknown_then code known read (Err ZeroLength) d h = absurd d
unknown_then code known read (Err (TooLong n)) d h = absurd d
unknown_then code known read (Err (UnknownCode n)) d h = λ t. apart known t d.1
unknown_then code known read (Err (Malformed n)) d h = absurd cc
unknown_then code known read (Err (Truncated n)) d h = absurd d
unknown_then code known read (Err NoMemory) d h = absurd cc

then_unknown : {V : Type 0} (code : ℕ) (known : Bool) (read : Option V) (Encoded : V → Type 0) (r : Result V WireFault) → Reads known read Encoded → Decodes code known read r → ¬ IsTrue known → r ≡ Err (UnknownCode code)
then_unknown code known read Encoded (Ok w) g d h = absurd (h (g.known_first w d))
then_unknown code known read Encoded (Err ZeroLength) g d h = absurd d
then_unknown code known read Encoded (Err (TooLong n)) g d h = absurd d
then_unknown code known read Encoded (Err (UnknownCode n)) g d h = ap (λ (n : ℕ). Err (UnknownCode n)) d.0
then_unknown code known read Encoded (Err (Malformed n)) g d h = absurd (h d.1)
then_unknown code known read Encoded (Err (Truncated n)) g d h = absurd d
then_unknown code known read Encoded (Err NoMemory) g d h = let x = some_value read d in absurd (h (g.known_first x.0 x.1))

pub is_unknown : {V : Type 0} (code : ℕ) (known : Bool) (read : Option V) (Encoded : V → Type 0) (r : Result V WireFault) → Reads known read Encoded → Decodes code known read r
    → (r ≡ Err (UnknownCode code)) ↔ (¬ IsTrue known)
is_unknown code known read Encoded r g d = (unknown_then code known read r d, then_unknown code known read Encoded r g d)

abbrev NoValue : {V : Type 0} → Bool → (V → Type 0) → Type 0
NoValue {V} known Encoded = IsTrue known × ((v : V) → ¬ Encoded v)

malformed_then : {V : Type 0} (code : ℕ) (known : Bool) (read : Option V) (Encoded : V → Type 0) (r : Result V WireFault) → Reads known read Encoded → Decodes code known read r → r ≡ Err (Malformed code) → NoValue known Encoded
malformed_then code known read Encoded (Ok w) g d h = absurd cc
malformed_then code known read Encoded (Err ZeroLength) g d h = absurd d
malformed_then code known read Encoded (Err (TooLong n)) g d h = absurd d
malformed_then code known read Encoded (Err (UnknownCode n)) g d h = absurd cc
malformed_then code known read Encoded (Err (Malformed n)) g d h = (d.1, λ v s. none-some v (sym d.2 ∙ g.only v s))
malformed_then code known read Encoded (Err (Truncated n)) g d h = absurd d
malformed_then code known read Encoded (Err NoMemory) g d h = absurd cc

then_malformed : {V : Type 0} (code : ℕ) (known : Bool) (read : Option V) (Encoded : V → Type 0) (r : Result V WireFault) → Reads known read Encoded → Decodes code known read r → NoValue known Encoded → r ≡ Err (Malformed code)
then_malformed code known read Encoded (Ok w) g d h = absurd (h.1 w (g.found w d))
then_malformed code known read Encoded (Err ZeroLength) g d h = absurd d
then_malformed code known read Encoded (Err (TooLong n)) g d h = absurd d
then_malformed code known read Encoded (Err (UnknownCode n)) g d h = absurd (apart known h.0 d.1)
then_malformed code known read Encoded (Err (Malformed n)) g d h = ap (λ (n : ℕ). Err (Malformed n)) d.0
then_malformed code known read Encoded (Err (Truncated n)) g d h = absurd d
then_malformed code known read Encoded (Err NoMemory) g d h = let x = some_value read d in absurd (h.1 x.0 (g.found x.0 x.1))

pub is_malformed : {V : Type 0} (code : ℕ) (known : Bool) (read : Option V) (Encoded : V → Type 0) (r : Result V WireFault) → Reads known read Encoded → Decodes code known read r
    → (r ≡ Err (Malformed code)) ↔ (IsTrue known × ((v : V) → ¬ Encoded v))
is_malformed code known read Encoded r g d = (malformed_then code known read Encoded r g d, then_malformed code known read Encoded r g d)
