-- What is so of each byte, and of bytes without the first of them.
use Rattle.std.proofs.Common.{◌≡◌, ℕ, zero, suc, Bool, true, false, List, [], ◌∷◌, ◌++◌, ◌&&◌, take, drop, refl}

-- P holds of each byte
abbrev pub Each : (ℕ → Type 0) → List ℕ → Type 0
Each P [] = Unit {0}
Each P (byte ∷ bytes) = P byte × Each P bytes

pub each_append : (P : ℕ → Type 0) (lead back : List ℕ) → Each P lead → Each P back → Each P (lead ++ back)
each_append P [] back first second = second
each_append P (byte ∷ lead) back first second = (first.0, each_append P lead back first.1 second)

pub each_take : (P : ℕ → Type 0) (n : ℕ) (bytes : List ℕ) → Each P bytes → Each P (take n bytes)
each_take P zero bytes each = tt
each_take P (suc n) [] each = tt
each_take P (suc n) (byte ∷ bytes) each = (each.0, each_take P n bytes each.1)

-- what holds of bytes without the first where it holds of all, holds of those from any on
pub from_drop : (P : List ℕ → Type 0) → ((byte : ℕ) (bytes : List ℕ) → P (byte ∷ bytes) → P bytes)
    → (n : ℕ) (bytes : List ℕ) → P bytes → P (drop n bytes)
from_drop P tail zero bytes whole = whole
from_drop P tail (suc n) [] whole = whole
from_drop P tail (suc n) (byte ∷ bytes) whole = from_drop P tail n bytes (tail byte bytes whole)

-- both of two tests passed
pub both_passed : (a b : Bool) → (a && b) ≡ true → (a ≡ true) × (b ≡ true)
both_passed true b e = (refl, e)
both_passed false b e = absurd cc

pub and_false : (b : Bool) → (b && false) ≡ false
and_false true = refl
and_false false = refl
