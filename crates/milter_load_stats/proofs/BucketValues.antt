-- The values of a bucket.
use Rattle.std.proofs.Common.{◌≡◌, ℕ, ◌+◌, ◌-◌, ◌*◌, ◌/◌, ◌^◌, ◌<◌, ◌≤◌, arith, ap, sym, ◌∙◌, inl, inr}
use Rattle.std.proofs.Math.Nat.{div-lt_iff_lt-mul, div-mul-le_self, lt-div-mul-add, one-le-pow, pow-le-pow_right, mul-le-mul_left, div-one}
use Rattle.std.proofs.lemmas.Nat.{leading_length, pow-add}
use Rattle.std.proofs.lemmas.Bool.{cases_eq, cases_lt}
use Rattle.milter_load_stats.specs.Buckets.{bucket_of, highest_in, lowest_in, octave_in, octave_of}

-- 128 times the power of its octave is above a value
pub below_octave : (value : ℕ) → value < 2 ^ 32 → value < 2 ^ octave_of value * 128
below_octave value low =
    let found = leading_length 32 value low in
    let m = found.0 in
    let less : m ≤ octave_of value + 7 = omega (arith, found.1) in
    let more : 2 ^ m ≤ 2 ^ (octave_of value + 7) = pow-le-pow_right {n = 2} (omega arith) less in
    let split : 2 ^ (octave_of value + 7) ≡ 2 ^ octave_of value * 128 = pow-add 2 (octave_of value) 7 in
    omega (arith, found.2, more, split)

-- 64 times the power of its octave isn't above a value that is halved
pub above_octave : (value : ℕ) → value < 2 ^ 32 → 0 < octave_of value → 2 ^ octave_of value * 64 ≤ value
above_octave value low some =
    let found = leading_length 32 value low in
    let m = found.0 in
    let is : m ≡ octave_of value + 7 = omega (arith, found.1, some) in
    let split : 2 ^ m ≡ 2 ^ octave_of value * 128 = ap (λ n. 2 ^ n) is ∙ pow-add 2 (octave_of value) 7 in
    omega (arith, found.3, split)

-- the place of a value in its octave
pub place_low : (value : ℕ) → value < 2 ^ 32 → value / 2 ^ octave_of value < 128
place_low value low =
    (div-lt_iff_lt-mul {k = 2 ^ octave_of value} {x = value} {y = 128} (one-le-pow (octave_of value) 2 (omega arith))).1
    (omega (arith, below_octave value low))

-- a value that fits has a bucket
pub bucket_low : (value : ℕ) → value < 2 ^ 32 → bucket_of value < 1728
bucket_low value low = omega (arith, place_low value low)

-- ---- the lowest and the highest value of a bucket

exact : (value power : ℕ) → power ≡ 1 → (value / power + 1) * power - 1 ≡ value
exact value power one =
    ap (λ n. (value / n + 1) * n - 1) one ∙ omega (arith, div-one value)

one-octave : (p q o r : ℕ) → r ≡ o → q ≡ p + 1 → 1 ≤ 2 ^ o → q * 2 ^ r ≡ (p + 1) * 2 ^ o - 1 + 1
one-octave p q o r same more some =
    ap (λ n. n * 2 ^ r) more ∙ ap (λ n. (p + 1) * 2 ^ n) same
    ∙ omega (arith, mul-le-mul_left (p + 1) some)

two-octaves : (p q o r : ℕ) → r ≡ o + 1 → q ≡ 64 → p ≡ 127 → 1 ≤ 2 ^ o → q * 2 ^ r ≡ (p + 1) * 2 ^ o - 1 + 1
two-octaves p q o r more low high some =
    let double : 2 ^ r ≡ 2 ^ o * 2 = ap (λ n. 2 ^ n) more ∙ pow-add 2 o 1 in
    ap (λ n. n * 2 ^ r) low ∙ omega (arith, double, some) ∙ ap (λ n. (n + 1) * 2 ^ o - 1 + 1) (sym high)

-- a value that is halved has one of the higher places
place_high : (value : ℕ) → value < 2 ^ 32 → 0 < octave_of value → 64 ≤ value / 2 ^ octave_of value
place_high value low some =
    elim (cases_lt (value / 2 ^ octave_of value) 64) [
      | inl less ↦
          absurd (omega (
            arith,
            above_octave value low some,
            (div-lt_iff_lt-mul {k = 2 ^ octave_of value} {x = value} {y = 64} (one-le-pow (octave_of value) 2 (omega arith))).0 less,
          ))
      | inr enough ↦ enough
    ]

-- the octave of the bucket of a place
octave-again : (o p : ℕ) → p < 128 → (0 < o → 64 ≤ p) → octave_in (64 * o + p) ≡ o
octave-again o p low high =
    elim (cases_lt 0 o) [
      | inl some ↦ omega (arith, low, high some)
      | inr none ↦ omega (arith, low, none)
    ]

again : (value : ℕ) → value < 2 ^ 32 → octave_in (bucket_of value) ≡ octave_of value
again value low =
    octave-again (octave_of value) (value / 2 ^ octave_of value) (place_low value low) (place_high value low)

place-again : (value : ℕ) → value < 2 ^ 32 → bucket_of value - 64 * octave_in (bucket_of value) ≡ value / 2 ^ octave_of value
place-again value low = omega (arith, again value low)

power-again : (value : ℕ) → value < 2 ^ 32 → 2 ^ octave_in (bucket_of value) ≡ 2 ^ octave_of value
power-again value low = ap (λ n. 2 ^ n) (again value low)

lowest-is : (value : ℕ) → value < 2 ^ 32
    → lowest_in (bucket_of value) ≡ value / 2 ^ octave_of value * 2 ^ octave_of value
lowest-is value low = ap (λ n. n * 2 ^ octave_in (bucket_of value)) (place-again value low)
    ∙ ap (λ n. value / 2 ^ octave_of value * n) (power-again value low)

highest-is : (value : ℕ) → value < 2 ^ 32
    → highest_in (bucket_of value) ≡ (value / 2 ^ octave_of value + 1) * 2 ^ octave_of value - 1
highest-is value low = ap (λ n. (n + 1) * 2 ^ octave_in (bucket_of value) - 1) (place-again value low)
    ∙ ap (λ n. (value / 2 ^ octave_of value + 1) * n - 1) (power-again value low)

pub lowest : (value : ℕ) → value < 2 ^ 32 → lowest_in (bucket_of value) ≤ value
lowest value low = omega (arith, lowest-is value low, div-mul-le_self value (2 ^ octave_of value))

pub highest : (value : ℕ) → value < 2 ^ 32 → value ≤ highest_in (bucket_of value)
highest value low =
    omega (
      arith,
      highest-is value low,
      lt-div-mul-add {a = value} {b = 2 ^ octave_of value} (one-le-pow (octave_of value) 2 (omega arith)),
    )

pub close : (value : ℕ) → value < 2 ^ 32 → 64 * highest_in (bucket_of value) ≤ 65 * value
close value low =
    let o = octave_of value in
    elim (cases_lt 0 o) [
      | inl some ↦
          omega (
            arith,
            highest-is value low,
            div-mul-le_self value (2 ^ o),
            above_octave value low some,
          )
      | inr none ↦
          let zero : o ≡ 0 = omega (arith, none) in
          let one : 2 ^ o ≡ 1 = ap (λ n. 2 ^ n) zero in
          let same : (value / 2 ^ o + 1) * 2 ^ o - 1 ≡ value = exact value (2 ^ o) one in
          omega (arith, highest-is value low, same)
    ]

pub next : (bucket : ℕ) → lowest_in (bucket + 1) ≡ highest_in bucket + 1
next bucket =
    let o = octave_in bucket in
    elim (cases_eq (octave_in (bucket + 1)) o) [
      | inl same ↦ one-octave (bucket - 64 * o) (bucket + 1 - 64 * octave_in (bucket + 1)) o (octave_in (bucket + 1))
          same (omega (arith, same)) (one-le-pow o 2 (omega arith))
      | inr other ↦ two-octaves (bucket - 64 * o) (bucket + 1 - 64 * octave_in (bucket + 1)) o (octave_in (bucket + 1))
          (omega (arith, other)) (omega (arith, other)) (omega (arith, other)) (one-le-pow o 2 (omega arith))
    ]
