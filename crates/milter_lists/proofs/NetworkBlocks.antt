-- The numbers that differ in their last bits alone.
use Rattle.std.proofs.Common.{◌≡◌, ℕ, ◌+◌, ◌-◌, ◌*◌, ◌/◌, ◌%◌, ◌<◌, ◌≤◌, ◌^◌, true, arith, sym, ◌∙◌, ap, subst}
use Rattle.std.specs.Prelude.{nat_eq, nat_le}
use Rattle.std.proofs.lemmas.Bool.{and_from, and_parts, eq-eqb, eqb-true, le-leb, leb-true}
use Rattle.std.proofs.lemmas.Nat.{div-add-mod', div-mul-add, mod_below, mul-add-lt, one_shl, pow-add, pow_pos, shr_below}
use Rattle.milter_lists.specs.Ranges.{is_in}
use Rattle.milter_lists.specs.NetworkRanges.{first_of, range_of}
use Rattle.milter_lists.proofs.KeySets.{same_test}

-- they have as many bits
block_fits : (number bits others : ℕ) → bits + others ≡ 128 → number < 2 ^ 128 → first_of number bits + (2 ^ bits - 1) < 2 ^ 128
block_fits number bits others all fits =
    let row : number / 2 ^ bits < 2 ^ others =
    shr_below number others bits (subst (λ n. number < 2 ^ n) {x = 128} {y = others + bits} (omega (arith, all)) fits) in
    let positive = pow_pos bits in
    let last : 2 ^ bits - 1 < 2 ^ bits = omega (arith, positive) in
    let within : first_of number bits + (2 ^ bits - 1) < 2 ^ bits * 2 ^ others =
    mul-add-lt (number / 2 ^ bits) (2 ^ bits) (2 ^ bits - 1) (2 ^ others) row last in
    subst (λ n. first_of number bits + (2 ^ bits - 1) < n) (sym (pow-add 2 bits others) ∙ ap (λ n. 2 ^ n) all) within

first_is : (number bits : ℕ) → number - number % 2 ^ bits ≡ first_of number bits
first_is number bits = let parts = div-add-mod' number (2 ^ bits) in omega (arith, parts)

-- what the code adds
pub sum_fits : (number bits size : ℕ) → number < 2 ^ 128 → bits < 128 → size ≡ (1 * 2 ^ bits) % 2 ^ 128
    → number - number % size + (size - 1) < 2 ^ 128
sum_fits number bits size fits below is =
    let size_is : size ≡ 2 ^ bits = is ∙ one_shl bits 128 below in
    subst (λ s. number - number % s + (s - 1) < 2 ^ 128) (sym size_is)
    (subst (λ f. f + (2 ^ bits - 1) < 2 ^ 128) (sym (first_is number bits))
    (block_fits number bits (128 - bits) (omega (arith, below)) fits))

-- a number is one of them exactly where it has the same first bits
pub in_block : (n x bits : ℕ) → is_in x (range_of n bits) ≡ nat_eq (n / 2 ^ bits) (x / 2 ^ bits)
in_block n x bits = same_test (is_in x (range_of n bits)) (nat_eq (n / 2 ^ bits) (x / 2 ^ bits)) into out
  where
    into : is_in x (range_of n bits) ≡ true → nat_eq (n / 2 ^ bits) (x / 2 ^ bits) ≡ true
    into e =
        let parts = and_parts (nat_le (first_of n bits) x) (nat_le x (first_of n bits + (2 ^ bits - 1))) e in
        let from : first_of n bits ≤ x = leb-true _ _ parts.0 in
        let to : x ≤ first_of n bits + (2 ^ bits - 1) = leb-true _ _ parts.1 in
        let positive = pow_pos bits in
        let whole : first_of n bits + (x - first_of n bits) ≡ x = omega (arith, from) in
        let short : x - first_of n bits < 2 ^ bits = omega (arith, from, to, positive) in
        eq-eqb (n / 2 ^ bits) (x / 2 ^ bits)
        (sym (div-mul-add (n / 2 ^ bits) (2 ^ bits) (x - first_of n bits) short) ∙ ap (λ y. y / 2 ^ bits) whole)

    out : nat_eq (n / 2 ^ bits) (x / 2 ^ bits) ≡ true → is_in x (range_of n bits) ≡ true
    out e =
        let same : n / 2 ^ bits ≡ x / 2 ^ bits = eqb-true _ _ e in
        let first : first_of n bits ≡ first_of x bits = ap (λ q. q * 2 ^ bits) same in
        let parts = div-add-mod' x (2 ^ bits) in
        let last = mod_below x (2 ^ bits) (pow_pos bits) in
        and_from (nat_le (first_of n bits) x) (nat_le x (first_of n bits + (2 ^ bits - 1)))
        (le-leb _ _ (omega (arith, first, parts))) (le-leb _ _ (omega (arith, first, parts, last)))
