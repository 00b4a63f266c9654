-- A transcript and its parts.
use Rattle.std.proofs.Common.{◌≡◌, Bool, true, false, List, [], ◌∷◌, ◌++◌, refl, ap, if◌then◌else◌, All, IfSome}
use Rattle.std.proofs.lemmas.List.Elements.{All-cons, All-nil}
use Rattle.milter_protocol.specs.Exchanges.{latest, since, up_to}

pub since-up_to : {A : Type 0} (is_kind : A → Bool) (transcript : List A) → since is_kind transcript ++ up_to is_kind transcript ≡ transcript
since-up_to is_kind [] = refl
since-up_to {A} is_kind (x ∷ before) = by_kind (is_kind x) (since-up_to is_kind before)
  where
    by_kind : (is : Bool) → since is_kind before ++ up_to is_kind before ≡ before
        → (if is then [] else x ∷ since is_kind before) ++ (if is then x ∷ before else up_to is_kind before) ≡ x ∷ before
    by_kind true rest = refl
    by_kind false rest = ap (λ xs. x ∷ xs) rest

pub none-since : {A : Type 0} (is_kind : A → Bool) (transcript : List A) → All (λ x. is_kind x ≡ false) (since is_kind transcript)
none-since {A} is_kind [] = All-nil (λ (x : A). is_kind x ≡ false)
none-since {A} is_kind (x ∷ before) = by_kind (is_kind x) refl (none-since is_kind before)
  where
    by_kind : (is : Bool) → is_kind x ≡ is → All (λ y. is_kind y ≡ false) (since is_kind before)
        → All (λ y. is_kind y ≡ false) (if is then [] else x ∷ since is_kind before)
    by_kind true e rest = All-nil (λ (x : A). is_kind x ≡ false)
    by_kind false e rest = All-cons (λ (y : A). is_kind y ≡ false) x (since is_kind before) e rest

pub last-up_to : {A : Type 0} (is_kind : A → Bool) (transcript : List A) → IfSome (latest (up_to is_kind transcript)) (λ x. is_kind x ≡ true)
last-up_to is_kind [] = tt
last-up_to {A} is_kind (x ∷ before) = by_kind (is_kind x) refl (last-up_to is_kind before)
  where
    by_kind : (is : Bool) → is_kind x ≡ is → IfSome (latest (up_to is_kind before)) (λ y. is_kind y ≡ true)
        → IfSome (latest (if is then x ∷ before else up_to is_kind before)) (λ y. is_kind y ≡ true)
    by_kind true e rest = e
    by_kind false e rest = rest
