-- What `next` answers, from the start of its bytes.
use Rattle.std.proofs.Common.{◌≡◌, ℕ, List, Some, Result, Ok, Err}
use Rattle.std.specs.Prelude.{◌↔◌}
use Rattle.milter_fields.specs.declared.fault.WireFault.{WireFault}
use Rattle.milter_fields.specs.Stream.{length_fault}

-- the faults that a call answers are those of the length field
abbrev pub FaultsByLength : {T : Type 0} → List ℕ → Result T WireFault → Type 0
FaultsByLength bytes r = (f : WireFault) → (r ≡ Err f) ↔ (length_fault bytes ≡ Some f)

-- a fault that is passed on
pub passed_on : {A B : Type 0} (bytes : List ℕ) (r : Result A WireFault) (s : Result B WireFault) (y : WireFault) → FaultsByLength bytes s → s ≡ Err y → r ≡ Err y → FaultsByLength bytes r
passed_on bytes r s y faults was is = λ f. (λ h. (faults f).0 (cc), λ h. let e = (faults f).1 h in cc)

no_fault : {B : Type 0} (bytes : List ℕ) (s : Result B WireFault) (x : B) → FaultsByLength bytes s → s ≡ Ok x → (f : WireFault) → length_fault bytes ≡ Some f → ⊥
no_fault bytes s x faults was f h = let e = (faults f).1 h in cc

-- an answer where there is no fault
pub no_fault_at_ok : {A B : Type 0} (bytes : List ℕ) (y : A) (s : Result B WireFault) (x : B) → FaultsByLength bytes s → s ≡ Ok x → FaultsByLength {T = A} bytes (Ok y)
no_fault_at_ok bytes y s x faults was = λ f. (λ h. absurd cc, λ h. absurd (no_fault bytes s x faults was f h))
