-- Values that are counted in buckets.
use Rattle.std.proofs.Common.{◌≡◌, ℕ, ◌+◌, ◌^◌, ◌<◌, ◌≤◌, ◌==◌, Bool, cond, List, [], ◌∷◌, All, length, max, nat_lt, get_or, set, replicate, refl, sym, ap, ◌∙◌, arith, inl, inr}
use Rattle.std.specs.List.{count_by}
use Rattle.std.proofs.lemmas.Bool.{cases_eq, cases_order, eq-eqb, ne_eqb, lt-ltb, le-ltb}
use Rattle.std.proofs.lemmas.List.{get_or-set_same, get_or-set_other, get_or-replicate, length-set, length-replicate}
use Rattle.std.proofs.lemmas.List.Elements.{All-cons, All-nil, All-get_or, All-tail}
use Rattle.std.proofs.lemmas.List.Sums.{sum_by-cons, count_by-le-length}
use Rattle.std.proofs.Math.Nat.{mul-le-mul_left}
use Rattle.milter_load_stats.specs.Buckets.{bucket_of}
use Rattle.milter_load_stats.specs.Tallies.{Tallied, below, within, rank_of}
use Rattle.milter_load_stats.proofs.BucketValues.{bucket_low}

abbrev number : Bool → ℕ
number test = cond test 1 0

lower-or-same : (x b : ℕ) → number (nat_lt x (b + 1)) ≡ number (nat_lt x b) + number (x == b)
lower-or-same x b =
    elim (cases_order x b) [
      | inl same ↦
          let first : number (nat_lt x (b + 1)) ≡ 1 = ap number (lt-ltb x (b + 1) (omega (arith, same))) in
          let second : number (nat_lt x b) ≡ 0 = ap number (le-ltb x b (omega (arith, same))) in
          let third : number (x == b) ≡ 1 = ap number (eq-eqb x b same) in
          omega (arith, first, second, third)
      | inr (inl lower) ↦
          let first : number (nat_lt x (b + 1)) ≡ 1 = ap number (lt-ltb x (b + 1) (omega (arith, lower))) in
          let second : number (nat_lt x b) ≡ 1 = ap number (lt-ltb x b lower) in
          let third : number (x == b) ≡ 0 = ap number (ne_eqb x b (omega (arith, lower))) in
          omega (arith, first, second, third)
      | inr (inr higher) ↦
          let first : number (nat_lt x (b + 1)) ≡ 0 = ap number (le-ltb x (b + 1) (omega (arith, higher))) in
          let second : number (nat_lt x b) ≡ 0 = ap number (le-ltb x b (omega (arith, higher))) in
          let third : number (x == b) ≡ 0 = ap number (ne_eqb x b (omega (arith, higher))) in
          omega (arith, first, second, third)
    ]

-- those below the next bucket are those below this one and those in it
step : (f : ℕ → ℕ) (b : ℕ) (values : List ℕ) → count_by (λ v. nat_lt (f v) (b + 1)) values
    ≡ count_by (λ v. nat_lt (f v) b) values + count_by (λ v. f v == b) values
step f b [] = refl
step f b (v ∷ values) =
    omega (
      arith,
      sum_by-cons (λ (v : ℕ). number (nat_lt (f v) (b + 1))) v values,
      sum_by-cons (λ (v : ℕ). number (nat_lt (f v) b)) v values,
      sum_by-cons (λ (v : ℕ). number (f v == b)) v values,
      step f b values,
      lower-or-same (f v) b,
    )

pub below-next : (b : ℕ) (values : List ℕ) → below (b + 1) values ≡ below b values + within b values
below-next b values = step bucket_of b values

none : (f : ℕ → ℕ) (values : List ℕ) → count_by (λ v. nat_lt (f v) 0) values ≡ 0
none f [] = refl
none f (v ∷ values) =
    omega (
      arith,
      sum_by-cons (λ (v : ℕ). number (nat_lt (f v) 0)) v values,
      none f values,
      ap number (le-ltb (f v) 0 (omega arith)),
    )

pub below-zero : (values : List ℕ) → below 0 values ≡ 0
below-zero values = none bucket_of values

every : (f : ℕ → ℕ) (b : ℕ) (values : List ℕ) → All (λ v. f v < b) values
    → count_by (λ v. nat_lt (f v) b) values ≡ length values
every f b [] all = refl
every f b (v ∷ values) all =
    let first : f v < b = All-get_or (λ (v : ℕ). f v < b) (v ∷ values) 0 0 (omega arith) all in
    omega (
      arith,
      sum_by-cons (λ (v : ℕ). number (nat_lt (f v) b)) v values,
      every f b values (All-tail (λ (v : ℕ). f v < b) v values all),
      ap number (lt-ltb (f v) b first),
    )

-- all of them are below the last bucket
pub below-last : (values : List ℕ) → All (λ v. v < 2 ^ 32) values → below 1728 values ≡ length values
below-last values small = every bucket_of 1728 values (λ k d h. bucket_low (get_or values k d) (small k d h))

pub below-few : (b : ℕ) (values : List ℕ) → below b values ≤ length values
below-few b values = count_by-le-length (λ (v : ℕ). nat_lt (bucket_of v) b) values

pub within-few : (b : ℕ) (values : List ℕ) → within b values ≤ length values
within-few b values = count_by-le-length (λ (v : ℕ). bucket_of v == b) values

counted : (f : ℕ → ℕ) (b v : ℕ) (values : List ℕ) → count_by (λ x. f x == b) (v ∷ values)
    ≡ number (f v == b) + count_by (λ x. f x == b) values
counted f b v values = sum_by-cons (λ (x : ℕ). number (f x == b)) v values

-- one value more, where the count of its bucket is one more
pub tallied-more : (counts : List ℕ) (total most v i next : ℕ) (values : List ℕ) (more_total more_most : ℕ)
    → Tallied (record { counts = counts; total = total; greatest = most }) values
    → i ≡ bucket_of v → i < length counts → next ≡ get_or counts i 0 + 1 → v < 2 ^ 32
    → more_total ≡ total + 1 → more_most ≡ max v most
    → Tallied (record { counts = set counts i next; total = more_total; greatest = more_most }) (v ∷ values)
tallied-more counts total most v i next values more_total more_most tallied is inside more low sum great =
    record {
      small = All-cons (λ (x : ℕ). x < 2 ^ 32) v values low tallied.small;
      each =
          λ b h.
          let here : b < length counts = omega (arith, h, length-set counts i next) in
          elim (cases_eq b i) [
            | inl same ↦
                let one : number (bucket_of v == b) ≡ 1 =
                ap number (eq-eqb (bucket_of v) b (sym is ∙ sym same)) in
                ap (λ n. get_or (set counts i next) n 0) same ∙ get_or-set_same counts i next 0 inside
                ∙ more ∙ ap (λ n. get_or counts n 0 + 1) (sym same)
                ∙ ap (λ n. n + 1) (tallied.each b here)
                ∙ omega (arith, counted bucket_of b v values, one)
            | inr other ↦
                let zero : number (bucket_of v == b) ≡ 0 =
                ap number (ne_eqb (bucket_of v) b (λ e. other (sym e ∙ sym is))) in
                get_or-set_other counts i b next 0 other ∙ tallied.each b here
                ∙ omega (arith, counted bucket_of b v values, zero)
          ];
      all = omega (arith, sum, tallied.all);
      most = great ∙ ap (λ n. max v n) tallied.most;
    }

-- nothing was recorded
pub tallied-none : (counts : List ℕ) (n : ℕ) → counts ≡ replicate n 0
    → Tallied (record { counts = counts; total = 0; greatest = 0 }) []
tallied-none counts n is =
    let zero : ℕ = 0 in
    let long : length counts ≡ n = ap length is ∙ length-replicate n zero in
    record {
      small = All-nil (λ (x : ℕ). x < 2 ^ 32);
      each =
          λ b h.
          let here : b < n = omega (arith, h, long) in
          ap (λ l. get_or l b 0) is ∙ get_or-replicate n b zero zero here;
      all = refl;
      most = refl;
    }

-- ---- ranks

pub rank-some : (per_mille total : ℕ) → 0 < per_mille → 0 < total → 0 < rank_of per_mille total
rank-some per_mille total some any =
    let one : 1 ≤ per_mille = omega (arith, some) in
    omega (arith, any, mul-le-mul_left total one)

pub rank-few : (per_mille total : ℕ) → per_mille ≤ 1000 → rank_of per_mille total ≤ total
rank-few per_mille total whole = omega (arith, mul-le-mul_left total whole)

pub empty : (values : List ℕ) → length values ≡ 0 → values ≡ []
empty [] none = refl
empty (v ∷ values) none = absurd (omega (arith, none))
