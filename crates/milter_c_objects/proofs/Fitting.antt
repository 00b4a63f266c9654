-- What holds of a list with an element more, or as it was.
use Rattle.std.specs.Prelude.{◌≡◌, All, Bool, true, false, List, [], ◌∷◌, ◌++◌, if◌then◌else◌}
use Rattle.std.proofs.Common.{subst, sym}
use Rattle.std.proofs.lemmas.List.Elements.{All-append, All-cons, All-nil}

pub all-pushed : {X : Type 0} (P : X → Type 0) (done : Bool) (old new : List X) (x : X)
    → new ≡ (if done then old ++ x ∷ [] else old) → All P old → P x → All P new
all-pushed P true old new x e all one = subst (All P) (sym e) (All-append P old (x ∷ []) all (All-cons P x [] one (All-nil P)))
all-pushed P false old new x e all one = subst (All P) (sym e) all
