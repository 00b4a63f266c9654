-- What a connection that is lost after a number of bytes sends.
use Rattle.std.specs.Prelude.{◌≡◌, ◌≢◌, ◌+◌, ℕ, min, Option, None, Some, Result, Ok, Err}

-- how many bytes of so many may be sent, by how many are left before the loss: none once none is left
abbrev pub IsAllowed : {E : Type 0} → Option ℕ → ℕ → Result ℕ E → Type 0
IsAllowed None count (Ok most) = most ≡ count
IsAllowed None count (Err e) = ⊥
IsAllowed (Some left) count (Ok most) = (left ≢ 0) × (most ≡ min count left)
IsAllowed (Some left) count (Err e) = left ≡ 0

-- How many are left before and after a write: what was sent is no more than was left, and is not left any more. Where
-- there is no limit none comes.
abbrev pub Spends : {E : Type 0} → Option ℕ → Option ℕ → Result ℕ E → Type 0
Spends None after result = after ≡ None
Spends (Some left) after (Ok count) = (rest : ℕ) × (after ≡ Some rest) × (left ≡ rest + count) × (left ≢ 0)
Spends (Some left) after (Err e) = after ≡ Some left
