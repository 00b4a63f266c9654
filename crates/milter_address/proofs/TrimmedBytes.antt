-- Bytes without those at the end that pass a test.
use Rattle.std.proofs.Common.{◌≡◌, ℕ, Bool, true, false, List, [], ◌∷◌, ◌++◌, ◌&&◌, ap, sym, refl}
use Rattle.std.specs.List.{list_all}
use Rattle.milter_address.specs.Trimmed.{trimmed_end}

all_but_last : (test : ℕ → Bool) (xs : List ℕ) (x : ℕ) → test x ≡ true → list_all test (xs ++ x ∷ []) ≡ list_all test xs
all_but_last test [] x e = rw e refl
all_but_last test (y ∷ xs) x e = ap (λ b. test y && b) (all_but_last test xs x e)

trim_last : (test : ℕ → Bool) (xs : List ℕ) (x : ℕ) → test x ≡ true → trimmed_end test (xs ++ x ∷ []) ≡ trimmed_end test xs
trim_last test [] x e = rw e refl
trim_last test (y ∷ xs) x e = rw (all_but_last test xs x e, trim_last test xs x e) refl

and_false : (b : Bool) → (b && false) ≡ false
and_false true = refl
and_false false = refl

-- bytes of which not all pass
not_all : (test : ℕ → Bool) (xs : List ℕ) (x : ℕ) → test x ≡ false → list_all test (xs ++ x ∷ []) ≡ false
not_all test [] x e = rw e refl
not_all test (y ∷ xs) x e = rw (not_all test xs x e) (and_false (test y))

keep_last : (test : ℕ → Bool) (xs : List ℕ) (x : ℕ) → test x ≡ false → trimmed_end test (xs ++ x ∷ []) ≡ xs ++ x ∷ []
keep_last test [] x e = rw e refl
keep_last test (y ∷ xs) x e = rw (not_all test (y ∷ xs) x e) (ap (λ bytes. y ∷ bytes) (keep_last test xs x e))

pub trimmed_before : (test : ℕ → Bool) (xs : List ℕ) (x : ℕ) (whole : List ℕ) → whole ≡ xs ++ x ∷ [] → test x ≡ true
    → trimmed_end test xs ≡ trimmed_end test whole
trimmed_before test xs x whole e passes = rw e (sym (trim_last test xs x passes))

pub trimmed_whole : (test : ℕ → Bool) (xs : List ℕ) (x : ℕ) (whole : List ℕ) → whole ≡ xs ++ x ∷ [] → test x ≡ false
    → whole ≡ trimmed_end test whole
trimmed_whole test xs x whole e fails = rw e (sym (keep_last test xs x fails))
