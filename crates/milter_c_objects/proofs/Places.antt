-- The element at a place after others.
use Rattle.std.specs.Prelude.{◌≡◌, ◌≤◌, ℕ, List, ◌∷◌, ◌++◌, Option, map, option_map, refl, slice_get}
use Rattle.std.proofs.Common.{◌-◌, ◌∙◌, ap, arith, suc, zero}
use Rattle.std.proofs.lemmas.Option.{slice_get-map}
use Rattle.milter_wire.specs.declared.options.Options.{Options}
use Rattle.milter_c_objects.specs.Parts.{PartValue, options_parts}

pub after_first : {A B : Type 0} (f : A → B) (x : B) (xs : List A) (place : ℕ) → (place ≡ 0 → ⊥)
    → slice_get (x ∷ map f xs) place ≡ option_map f (slice_get xs (place - 1))
after_first f x xs zero later = absurd (later refl)
after_first f x xs (suc place) later =
    slice_get-map f xs place ∙ ap (λ k. option_map f (slice_get xs k)) (omega arith)

pub after_options : {A : Type 0} (f : A → PartValue) (options : Options) (xs : List A) (place : ℕ) → 3 ≤ place
    → slice_get (options_parts options ++ map f xs) place ≡ option_map f (slice_get xs (place - 3))
after_options f options xs zero later = absurd (omega (arith, later))
after_options f options xs (suc zero) later = absurd (omega (arith, later))
after_options f options xs (suc (suc zero)) later = absurd (omega (arith, later))
after_options f options xs (suc (suc (suc place))) later =
    slice_get-map f xs place ∙ ap (λ k. option_map f (slice_get xs k)) (omega arith)
