-- Sets of keys, and tests that some key passes.
use Rattle.std.proofs.Common.{◌≡◌, ◌≤◌, ◌<◌, ℕ, suc, Bool, true, false, List, [], ◌∷◌, length, map, refl, sym, ap, arith, ◌∙◌}
use Rattle.std.specs.Prelude.{IsTrue, ◌↔◌, ◌||◌}
use Rattle.std.specs.List.{All, Contains, list_any}
use Rattle.std.specs.Str.{bytes_eq}
use Rattle.std.proofs.lemmas.Bool.{false_from_ne_true}
use Rattle.std.proofs.lemmas.Cmp.{nat_list_eq_equiv}
use Rattle.std.proofs.lemmas.Map.Views.{Contains-from_any, list_any-from_Contains}
use Rattle.std.proofs.lemmas.Slice.Eq.{bytes_eq-Decides}
use Rattle.milter_lists.specs.ListKeys.{is_key}

-- two tests of which each is true where the other is
pub same_test : (a b : Bool) → (a ≡ true → b ≡ true) → (b ≡ true → a ≡ true) → a ≡ b
same_test true b to from = sym (to refl)
same_test false true to from = from refl
same_test false false to from = refl

pub contained_is_key : (keys : List (List ℕ)) (key : List ℕ) (found : Bool) → IsTrue found ↔ Contains keys key
    → found ≡ is_key keys key
contained_is_key keys key found iff =
    same_test found (is_key keys key) (λ e. list_any-from_Contains nat_list_eq_equiv key keys (iff.0 e))
    (λ e. iff.1 (Contains-from_any (λ x y same. (bytes_eq-Decides x y).0 same) key keys e))

-- a key that is longer than all others is none of them
pub longer_is_none : (keys : List (List ℕ)) (key : List ℕ) (n : ℕ) → All (λ other. length other ≤ n) keys
    → n < length key → is_key keys key ≡ false
longer_is_none [] key n short long = refl
longer_is_none (other ∷ keys) key n short long =
    let first : length other ≤ n = short 0 other (omega arith) in
    let differ : bytes_eq key other ≡ false =
    false_from_ne_true (bytes_eq key other)
    (λ same. let len : length key ≡ length other = ap length ((bytes_eq-Decides key other).0 same) in
    omega (arith, first, long, len)) in
    rw (differ, longer_is_none keys key n (λ k d below. short (suc k) d (omega (arith, below))) long) refl

pub or_false : (b : Bool) → (b || false) ≡ b
or_false true = refl
or_false false = refl

-- ---- tests that some pass

pub any_congr : {X : Type 0} (p q : X → Bool) (xs : List X) → ((x : X) → p x ≡ q x) → list_any p xs ≡ list_any q xs
any_congr p q [] same = refl
any_congr p q (x ∷ xs) same = rw (same x, any_congr p q xs same) refl

pub any_none : {X : Type 0} (xs : List X) → list_any (λ x. false) xs ≡ false
any_none [] = refl
any_none (x ∷ xs) = any_none xs

or_middle : (a b c d : Bool) → ((a || b) || (c || d)) ≡ ((a || c) || (b || d))
or_middle true b c d = refl
or_middle false true true d = refl
or_middle false true false d = refl
or_middle false false true d = refl
or_middle false false false d = refl

pub any_or : {X : Type 0} (p q : X → Bool) (xs : List X) → list_any (λ x. p x || q x) xs ≡ (list_any p xs || list_any q xs)
any_or p q [] = refl
any_or p q (x ∷ xs) = ap (λ b. (p x || q x) || b) (any_or p q xs) ∙ or_middle (p x) (q x) (list_any p xs) (list_any q xs)

-- one of some is one of the others, and the other way round
pub any_swap : {X : Type 0} (key_of : X → List ℕ) (keys : List (List ℕ)) (xs : List X)
    → list_any (is_key (map key_of xs)) keys ≡ list_any (λ x. list_any (λ key. bytes_eq key (key_of x)) keys) xs
any_swap key_of keys [] = any_none keys
any_swap key_of keys (x ∷ xs) =
    any_or (λ key. bytes_eq key (key_of x)) (is_key (map key_of xs)) keys
    ∙ ap (λ b. list_any (λ key. bytes_eq key (key_of x)) keys || b) (any_swap key_of keys xs)
