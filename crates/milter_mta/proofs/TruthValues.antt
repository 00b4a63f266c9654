-- Truth values.
use Rattle.std.proofs.Common.{◌≡◌, Bool, true, false, not, ◌&&◌, ◌||◌, refl}

pub or-true : (a b : Bool) → b ≡ true → (a || b) ≡ true
or-true true b e = refl
or-true false b e = e

-- of a recipient without an answer, and of others, all are not refused
pub none_refused : (r x y : Bool) → (r && x && not ((r && true) || y)) ≡ false
none_refused true true y = refl
none_refused true false y = refl
none_refused false x y = refl
