-- Bytes that are seen some lanes at a time, through the mask of those that pass.
use Rattle.std.proofs.Common.{◌≡◌, ℕ, ◌+◌, ◌*◌, ◌%◌, ◌^◌, ◌<◌, ◌≤◌, Bool, true, false, not, zero, suc, cond, eqb, List, [], ◌∷◌, map, length, drop, Some, None, refl, sym, ap, ap₂, ◌∙◌, arith, inl, inr}
use Rattle.std.proofs.lemmas.Bool.{cases_lt, eq-eqb, le-ltb, lt-ltb, ne_eqb}
use Rattle.std.proofs.lemmas.List.{length-map}
use Rattle.std.proofs.lemmas.List.Folds.{prefix_len-append}
use Rattle.std.proofs.lemmas.List.Sums.{prefix_len-le-length}
use Rattle.std.proofs.lemmas.Simd.{chunk-drop, length-chunk, leading_from_mask_l, mask_l-mod, trailing_mask_l}
use Rattle.std.specs.List.{position_or_len, prefix_len}
use Rattle.std.specs.Prelude.{position}
use lib.Lanes.{chunk, mask_l, top}
use lib.Count.{count_trailing_zeros}

-- ---- masks that are computed lane by lane

-- a lane of a mask
abbrev pub lane : Bool → ℕ
lane is = cond is 255 0

top_of_lane : (a : Bool) → top 7 (lane a) ≡ a
top_of_lane true = refl
top_of_lane false = refl

-- a mask whose lanes are those of p
abbrev pub MaskOf : (ℕ → Bool) → List ℕ → List ℕ → Type 0
MaskOf p bytes mask = mask ≡ map (λ byte. lane (p byte)) bytes

tops : (p : ℕ → Bool) (bytes : List ℕ) → map (top 7) (map (λ byte. lane (p byte)) bytes) ≡ map p bytes
tops p [] = refl
tops p (x ∷ xs) = ap₂ (λ l ls. l ∷ ls) (top_of_lane (p x)) (tops p xs)

pub bits_of_mask : (p : ℕ → Bool) (bytes : List ℕ) {mask : List ℕ} → length bytes ≤ 64 → MaskOf p bytes mask → mask_l (map (top 7) mask) % 2 ^ 64 ≡ mask_l (map p bytes)
bits_of_mask p bytes few is =
    ap (λ l. mask_l (map (top 7) l) % 2 ^ 64) is ∙ ap (λ l. mask_l l % 2 ^ 64) (tops p bytes) ∙ mask_l-mod (map p bytes) 64 (omega (arith, length-map bytes p))

-- ---- the first that passes

no_bit : (b : Bool) (n l m : ℕ) → n ≤ l → cond (not b) (1 + n) 0 ≡ 1 + l → (n ≡ l → m ≡ 0) → cond b 1 0 + 2 * m ≡ 0
no_bit true n l m le e rest = let no : ⊥ = omega arith in absurd no
no_bit false n l m le e rest = let none = rest (omega arith) in omega arith

one_more : (b : Bool) (n l m : ℕ) → suc n ≤ cond (not b) (1 + l) 0 → (n ≤ l → l ≡ n + m) → cond (not b) (1 + l) 0 ≡ suc n + m
one_more true n l m le rest = let no : ⊥ = omega arith in absurd no
one_more false n l m le rest = let others = rest (omega arith) in omega arith

module _ (p : ℕ → Bool) where
  abbrev passes : ℕ → Bool
  passes byte = not (p byte)

  split : (bytes : List ℕ) (i n : ℕ) → prefix_len passes (drop i bytes)
      ≡ cond (eqb (prefix_len passes (chunk i n bytes)) (length (chunk i n bytes))) (length (chunk i n bytes) + prefix_len passes (drop (i + n) bytes)) (prefix_len passes (chunk i n bytes))
  split bytes i n = ap (prefix_len passes) (chunk-drop i n bytes) ∙ prefix_len-append passes (chunk i n bytes) (drop (i + n) bytes)

  whole_run : (xs : List ℕ) → prefix_len passes xs ≡ length xs → mask_l (map p xs) ≡ 0
  whole_run [] e = refl
  whole_run (x ∷ xs) e = no_bit (p x) _ (length xs) _ (prefix_len-le-length passes xs) (omega arith) (whole_run xs)

  some_in_run : (xs : List ℕ) → 0 < mask_l (map p xs) → prefix_len passes xs < length xs
  some_in_run xs some =
      elim (cases_lt (prefix_len passes xs) (length xs)) [
        | inl lt ↦ lt
        | inr le ↦ let whole : prefix_len passes xs ≡ length xs = omega (arith, prefix_len-le-length passes xs) in absurd (omega (arith, whole_run xs whole))
      ]

  -- what is left of a run after a part of it
  rest_of_run : (bytes : List ℕ) (i : ℕ) → i ≤ position_or_len p bytes → position_or_len p bytes ≡ i + position_or_len p (drop i bytes)
  rest_of_run bytes zero le = let same : position_or_len p bytes ≡ position_or_len p (drop 0 bytes) = refl in omega (arith, same)
  rest_of_run [] (suc i) le = absurd (omega (arith, le))
  rest_of_run (x ∷ xs) (suc i) le = one_more (p x) i _ _ le (rest_of_run xs i)

  -- where no bit is set all of the lanes are before the first
  pub run_goes_through : (bytes : List ℕ) (i n : ℕ) → i + n ≤ length bytes → mask_l (map p (chunk i n bytes)) ≡ 0
      → position_or_len p (drop i bytes) ≡ n + position_or_len p (drop (i + n) bytes)
  run_goes_through bytes i n room none =
      let c = chunk i n bytes in
      split bytes i n
      ∙ ap (λ b. cond b (length c + prefix_len passes (drop (i + n) bytes)) (prefix_len passes c)) (eq-eqb _ _ (leading_from_mask_l p c none))
      ∙ ap (λ k. k + prefix_len passes (drop (i + n) bytes)) (length-chunk i n bytes room)

  pub none_in_lanes : (bytes : List ℕ) (i n : ℕ) → i ≤ position_or_len p bytes → i + n ≤ length bytes → mask_l (map p (chunk i n bytes)) ≡ 0
      → i + n ≤ position_or_len p bytes
  none_in_lanes bytes i n before room none = omega (arith, rest_of_run bytes i before, run_goes_through bytes i n room none)

  -- where a bit is set the lowest is that of the first
  pub run_ends_at : (bytes : List ℕ) (i n : ℕ) → i + n ≤ length bytes → n ≤ 64 → 0 < mask_l (map p (chunk i n bytes))
      → position_or_len p (drop i bytes) ≡ count_trailing_zeros 64 (mask_l (map p (chunk i n bytes)))
  run_ends_at bytes i n room few some =
      let c = chunk i n bytes in
      split bytes i n
      ∙ ap (λ b. cond b (length c + prefix_len passes (drop (i + n) bytes)) (prefix_len passes c)) (ne_eqb _ _ (λ (e : prefix_len passes c ≡ length c). omega (arith, whole_run c e)))
      ∙ sym (trailing_mask_l p 64 c (omega (arith, length-chunk i n bytes room)) some)

  pub first_in_lanes : (bytes : List ℕ) (i n : ℕ) → i ≤ position_or_len p bytes → i + n ≤ length bytes → n ≤ 64 → 0 < mask_l (map p (chunk i n bytes))
      → Some (i + count_trailing_zeros 64 (mask_l (map p (chunk i n bytes)))) ≡ position p bytes
  first_in_lanes bytes i n before room few some =
      let c = chunk i n bytes in
      let at : position_or_len p bytes ≡ i + count_trailing_zeros 64 (mask_l (map p c)) = omega (arith, rest_of_run bytes i before, run_ends_at bytes i n room few some) in
      let lanes = trailing_mask_l p 64 c (omega (arith, length-chunk i n bytes room)) some in
      let inside = some_in_run c some in
      rw (at, lt-ltb (i + count_trailing_zeros 64 (mask_l (map p c))) (length bytes) (omega (arith, lanes, inside, length-chunk i n bytes room))) refl

-- none passes
pub position_none : (p : ℕ → Bool) (bytes : List ℕ) → length bytes ≤ position_or_len p bytes → None ≡ position p bytes
position_none p bytes le = rw (le-ltb (position_or_len p bytes) (length bytes) le) refl
