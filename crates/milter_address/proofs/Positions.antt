-- The first place of a byte.
use Rattle.std.proofs.Common.{◌≡◌, ℕ, ◌≤◌, Bool, cond, List, length, Some, None, arith}
use Rattle.std.specs.Prelude.{unwrap_or, nat_lt}
use Rattle.std.specs.List.{position, position_or_len}
use Rattle.std.proofs.lemmas.List.Sums.{prefix_len-le-length}
use Rattle.std.proofs.lemmas.Grind.{common_steps}

at_end : (place len : ℕ) → place ≤ len → unwrap_or (cond (nat_lt place len) (Some place) None) len ≡ place
at_end place len within = grind (arith, common_steps)

-- the place, or the length where there is none
pub position_or_len_of : {X : Type 0} (test : X → Bool) (xs : List X)
    → unwrap_or (position test xs) (length xs) ≡ position_or_len test xs
position_or_len_of test xs = at_end (position_or_len test xs) (length xs) (prefix_len-le-length _ xs)
