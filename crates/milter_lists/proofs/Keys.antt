-- The keys of texts are in the order of the texts.
use Rattle.std.proofs.Common.{◌≡◌, ℕ, zero, suc, ◌+◌, ◌*◌, ◌<◌, ◌≤◌, List, [], ◌∷◌, get_or, take, drop, refl, arith, sym, ◌∙◌, ap, subst}
use Rattle.std.specs.Cmp.Lexicographic.{slice_cmp}
use Rattle.std.specs.Ordering.{nat_cmp, ordering_then}
use Rattle.std.specs.declared.cmp.Ordering.TheVariants.{Less, Equal}
use Rattle.std.proofs.lemmas.Cmp.{by_ranked, nat_cmp_total, ranked, tied_itself}
use Rattle.std.proofs.lemmas.List.{get_or-drop}
use Rattle.milter_lists.specs.Keys.{number_from}

abbrev pub AreBytes : List ℕ → Type 0
AreBytes xs = (k : ℕ) → get_or xs k 0 < 256

behind_first : (xs : List ℕ) → AreBytes xs → AreBytes (drop 1 xs)
behind_first [] bytes = bytes
behind_first (x ∷ xs) bytes = λ k. bytes (suc k)

pub no_bytes : AreBytes []
no_bytes = λ k. omega arith

-- the digits before count more than all bytes behind
rises : (n a b : ℕ) (xs ys : List ℕ) → AreBytes xs → a < b → number_from a xs n < number_from b ys n
unfolding number_from
rises zero a b xs ys bytes less = less
rises (suc n) a b xs ys bytes less =
    let first : get_or xs 0 0 < 256 = bytes 0 in
    rises n (a * 256 + get_or xs 0 0) (b * 256 + get_or ys 0 0) (drop 1 xs) (drop 1 ys) (behind_first xs bytes)
    (omega (arith, first))

-- the end of a text is not above a byte
end_is_least : (n a : ℕ) (xs : List ℕ) → number_from a [] n ≤ number_from a xs n
unfolding number_from
end_is_least zero a xs = omega arith
end_is_least (suc n) a [] = omega arith
end_is_least (suc n) a (zero ∷ xs) = end_is_least n (a * 256 + 0) xs
end_is_least (suc n) a (suc x ∷ xs) =
    let above : number_from (a * 256 + 0) [] n < number_from (a * 256 + suc x) xs n =
    rises n (a * 256 + 0) (a * 256 + suc x) [] xs no_bytes (omega arith) in
    omega (arith, above)

-- texts are as their keys, where those differ
pub less_by_key : (n a : ℕ) (xs ys : List ℕ) → AreBytes xs → AreBytes ys → number_from a xs n < number_from a ys n
    → slice_cmp nat_cmp xs ys ≡ Less
unfolding number_from
less_by_key zero a xs ys bytes_x bytes_y less = absurd (omega arith)
less_by_key (suc n) a [] [] bytes_x bytes_y less = absurd (omega arith)
less_by_key (suc n) a [] (y ∷ ys) bytes_x bytes_y less = refl
less_by_key (suc n) a (x ∷ xs) [] bytes_x bytes_y less =
    let least : number_from a [] (suc n) ≤ number_from a (x ∷ xs) (suc n) = end_is_least (suc n) a (x ∷ xs) in
    absurd (omega (arith, least))
less_by_key (suc n) a (x ∷ xs) (y ∷ ys) bytes_x bytes_y less =
    let rest = slice_cmp nat_cmp xs ys in
    by_ranked (x < y) (x ≡ y) (y < x) (nat_cmp x y) (ranked x y (nat_cmp x y) refl)
    (λ e below. ap (λ first. ordering_then first rest) e)
    (λ e same.
    let Q : ℕ → Type 0 = λ z. number_from (a * 256 + x) xs n < number_from (a * 256 + z) ys n in
    ap (λ first. ordering_then first rest) e
    ∙ less_by_key n (a * 256 + x) xs ys (behind_first (x ∷ xs) bytes_x) (behind_first (y ∷ ys) bytes_y)
    (subst Q (sym same) less))
    (λ e above.
    let back : number_from (a * 256 + y) ys n < number_from (a * 256 + x) xs n =
    rises n (a * 256 + y) (a * 256 + x) ys xs (behind_first (y ∷ ys) bytes_y) (omega (arith, above)) in
    absurd (omega (arith, back, less)))

-- what two texts begin with alike does not matter
pub cmp_behind : (n : ℕ) (xs ys : List ℕ) → take n xs ≡ take n ys
    → slice_cmp nat_cmp xs ys ≡ slice_cmp nat_cmp (drop n xs) (drop n ys)
cmp_behind zero xs ys same = refl
cmp_behind (suc n) [] [] same = refl
cmp_behind (suc n) [] (y ∷ ys) same = absurd (cc)
cmp_behind (suc n) (x ∷ xs) [] same = absurd (cc)
cmp_behind (suc n) (x ∷ xs) (y ∷ ys) same =
    let first : x ≡ y = cc in
    let others : take n xs ≡ take n ys = cc in
    let tied : nat_cmp x y ≡ Equal = subst (λ z. nat_cmp x z ≡ Equal) first (tied_itself nat_cmp_total x) in
    ap (λ o. ordering_then o (slice_cmp nat_cmp xs ys)) tied ∙ cmp_behind n xs ys others

-- eight bytes, each with what it counts
pub eight_bytes : (xs : List ℕ) → get_or xs 0 0 * 72057594037927936 + get_or xs 1 0 * 281474976710656
    + get_or xs 2 0 * 1099511627776 + get_or xs 3 0 * 4294967296 + get_or xs 4 0 * 16777216
    + get_or xs 5 0 * 65536 + get_or xs 6 0 * 256 + get_or xs 7 0 ≡ number_from 0 xs 8
unfolding number_from
eight_bytes xs = simp get_or-drop (omega arith)
