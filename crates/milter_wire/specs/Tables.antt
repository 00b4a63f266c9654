-- Tables of codes, and what `decode` answers by one.
use Rattle.std.specs.Prelude.{◌≡◌, ℕ, Bool, true, false, ◌==◌, List, [], ◌∷◌, Option, Some, None, IsSome, Result, Ok, Err, if◌then◌else◌}
use Rattle.std.specs.List.{list_any}
use Rattle.milter_fields.specs.declared.fault.WireFault.{WireFault}
use Rattle.milter_fields.specs.declared.fault.WireFault.TheVariants.{ZeroLength, TooLong, UnknownCode, Malformed, Truncated, NoMemory}

-- ---- tables

-- a code, and how its payload is decoded
abbrev pub Row : Type 0 → Type 0
Row V = ℕ × (List ℕ → Option V)

-- whether a row has this code
abbrev pub has_row : {V : Type 0} → List (Row V) → ℕ → Bool
has_row rows code = list_any (λ row. row.0 == code) rows

-- the row with this code reads the payload
abbrev pub read_by : {V : Type 0} → List (Row V) → ℕ → List ℕ → Option V
read_by [] code payload = None
read_by (row ∷ rows) code payload = if code == row.0 then row.1 payload else read_by rows code payload

-- ---- answers

-- another value in the place of the one that is given
abbrev pub map_ok : {A B E : Type 0} → (A → B) → Result A E → Result B E
map_ok f (Ok x) = Ok (f x)
map_ok f (Err e) = Err e

-- `decode` gives what is read, unless memory is refused; whether the code is known is answered first.
abbrev pub Decodes : {V : Type 0} → ℕ → Bool → Option V → Result V WireFault → Type 0
Decodes code known read (Ok value) = read ≡ Some value
Decodes code known read (Err ZeroLength) = ⊥
Decodes code known read (Err (TooLong length)) = ⊥
Decodes code known read (Err (UnknownCode n)) = (n ≡ code) × (known ≡ false)
Decodes code known read (Err (Malformed n)) = (n ≡ code) × (known ≡ true) × (read ≡ None)
Decodes code known read (Err (Truncated bytes)) = ⊥
Decodes code known read (Err NoMemory) = IsSome read
