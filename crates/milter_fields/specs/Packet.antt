-- One packet on a stream.
use Rattle.std.specs.Prelude.{ℕ, ◌+◌, ◌≤◌, List, ◌∷◌, ◌++◌, length}
use Rattle.milter_fields.specs.declared.number.TheConstants.{PAYLOAD_MAX}
use Rattle.milter_fields.specs.Number.{number}

-- A packet is the length of its code and payload in four bytes, the highest first, then the code, then the payload.
abbrev pub packet : ℕ → List ℕ → List ℕ
packet code payload = number (length payload + 1) ++ code ∷ payload

-- the longest payload: a code and a payload have at most 65,536 bytes
abbrev pub IsPayload : List ℕ → Type 0
IsPayload payload = length payload ≤ PAYLOAD_MAX
