-- Steps of a decoding.
use Rattle.std.proofs.Common.{◌≡◌, ℕ, Bool, true, false, List, [], ◌∷◌, Some, refl, ◌⊎◌, inl, inr}
use Rattle.std.specs.Prelude.{if◌then◌else◌}
use Rattle.milter_fields.specs.Decoders.{ended}

pub ended_takes : {A : Type 0} (x : A) (rest : List ℕ) (y : A) → ended x rest ≡ Some y → (rest ≡ []) × (x ≡ y)
ended_takes x [] y e = (refl, cc)
ended_takes x (b ∷ rest) y e = absurd cc

pub chosen : {A : Type 0} (b : Bool) (x y z : A) → (if b then x else y) ≡ z → ((b ≡ true) × (x ≡ z)) ⊎ ((b ≡ false) × (y ≡ z))
chosen true x y z e = inl (refl, e)
chosen false x y z e = inr (refl, e)
