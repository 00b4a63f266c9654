-- The leftmost place of a segment is enough where any bytes may follow it.
use Rattle.std.proofs.Common.{◌≡◌, ℕ, zero, suc, Bool, true, false, ◌||◌, ◌&&◌, List, [], ◌∷◌, length, drop, Option, None, Some, refl, sym, ◌∙◌, ⊎_elim}
use Rattle.std.proofs.lemmas.Bool.{and_parts, cases_Bool, false_from_ne_true, false≢true, or_cases, or_right}
use Rattle.milter_text.specs.declared.glob.TextCase.{TextCase}
use Rattle.milter_text.specs.Globs.{some_suffix}
use Rattle.milter_text.specs.Segments.{after_first, begins_with}

-- a suffix of what is after more bytes is one of what is after fewer
wider : (test : List ℕ → Bool) (n : ℕ) (bytes : List ℕ) → some_suffix test (drop (suc n) bytes) ≡ true → some_suffix test (drop n bytes) ≡ true
wider test zero [] has = has
wider test zero (byte ∷ bytes) has = or_right (test (byte ∷ bytes)) (some_suffix test bytes) has
wider test (suc n) [] has = has
wider test (suc n) (byte ∷ bytes) has = wider test n bytes has

one_before : (test : List ℕ → Bool) (n byte : ℕ) (bytes : List ℕ) → some_suffix test (drop n bytes) ≡ true → some_suffix test (drop n (byte ∷ bytes)) ≡ true
one_before test zero byte bytes has = or_right (test (byte ∷ bytes)) (some_suffix test bytes) has
one_before test (suc n) byte bytes has = wider test n bytes has

absorbed : (x y : Bool) → (y ≡ true → x ≡ true) → (x || y) ≡ x
absorbed true y implies = refl
absorbed false y implies = false_from_ne_true y (λ is. false≢true (implies is))

none_after : (n : ℕ) → drop {A = ℕ} n [] ≡ []
none_after zero = refl
none_after (suc n) = refl

-- what was found passes
abbrev pub passes_found : (List ℕ → Bool) → Option (List ℕ) → Bool
passes_found test None = false
passes_found test (Some bytes) = test bytes

-- What begins with a segment, and has a suffix after it that passes, is some suffix of bytes only where the bytes after
-- the leftmost place of the segment have one that passes.
module _ (case : TextCase) (segment : List ℕ) (rest whole : List ℕ → Bool)
    (parts : (bytes : List ℕ) → whole bytes ≡ (begins_with case segment bytes && some_suffix rest (drop (length segment) bytes))) where
  from_any : (bytes : List ℕ) → some_suffix whole bytes ≡ true → some_suffix rest (drop (length segment) bytes) ≡ true
  from_any [] has = (and_parts _ _ (sym (parts []) ∙ has)).1
  from_any (byte ∷ bytes) has =
      ⊎_elim (λ here. (and_parts _ _ (sym (parts (byte ∷ bytes)) ∙ here)).1)
      (λ later. one_before rest (length segment) byte bytes (from_any bytes later))
      (or_cases (whole (byte ∷ bytes)) (some_suffix whole bytes) has)

  pub leftmost : (bytes : List ℕ) → some_suffix whole bytes ≡ passes_found (some_suffix rest) (after_first case segment bytes)
  leftmost [] =
      ⊎_elim
      (λ (begins : begins_with case segment [] ≡ true). rw (parts [], begins, none_after (length segment)) refl)
      (λ (other : begins_with case segment [] ≡ false). rw (parts [], other) refl)
      (cases_Bool (begins_with case segment []))
  leftmost (byte ∷ bytes) =
      ⊎_elim
      (λ (begins : begins_with case segment (byte ∷ bytes) ≡ true). rw (parts (byte ∷ bytes), begins)
      (absorbed (some_suffix rest (drop (length segment) (byte ∷ bytes))) (some_suffix whole bytes)
      (λ later. one_before rest (length segment) byte bytes (from_any bytes later))))
      (λ (other : begins_with case segment (byte ∷ bytes) ≡ false). rw (parts (byte ∷ bytes), other) (leftmost bytes))
      (cases_Bool (begins_with case segment (byte ∷ bytes)))
