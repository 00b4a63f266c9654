-- Bytes that are cut at the first separator, as a search for it finds it.
use Rattle.std.proofs.Common.{◌≡◌, ℕ, ◌+◌, ◌<◌, List, suc, true, length, take, drop, Some, None, arith, ap, sym, ◌∙◌, ◌∷◌}
use Rattle.std.specs.Prelude.{◌==◌, slice_index}
use Rattle.std.specs.List.{after_first, before_first, position_or_len, slice_split}
use Rattle.std.proofs.lemmas.Bool.{eqb-true, false_from_ne_true}
use Rattle.std.proofs.lemmas.List.{drop_all, length-drop}
use Rattle.std.proofs.Math.Seq.{drop-cons, take-length}
use Rattle.std.proofs.Math.Numerals.{suc-eq-add-one}
use Rattle.std.proofs.lemmas.List.Splits.{slice_split_first, slice_split_none}
use Rattle.std.proofs.lemmas.List.Sums.{fails_before_first, position_or_len_is}
use Rattle.memchr.specs.Find.{IsFirstByte}
use Rattle.milter_address.specs.Parts.{IsCut, IsOnePart, is_byte}

found_at : (s : ℕ) (bytes : List ℕ) (k : ℕ) → IsFirstByte (is_byte s) bytes (Some k) → position_or_len (is_byte s) bytes ≡ k
found_at s bytes k h =
    position_or_len_is (is_byte s) bytes k 0 (omega (arith, h.0.high))
    (λ j lt. false_from_ne_true (slice_index bytes j == s) (h.0.before j (omega arith) lt)) (λ _. h.1)

found_nowhere : (s : ℕ) (bytes : List ℕ) → IsFirstByte (is_byte s) bytes None → position_or_len (is_byte s) bytes ≡ length bytes
found_nowhere s bytes h =
    position_or_len_is (is_byte s) bytes (length bytes) 0 (omega arith)
    (λ j lt. false_from_ne_true (slice_index bytes j == s) (h j (omega arith) lt)) (λ lt. absurd (omega (arith, lt)))

drop_at : (s : ℕ) (bytes : List ℕ) (k : ℕ) → k < length bytes → is_byte s (slice_index bytes k) ≡ true → drop k bytes ≡ s ∷ drop (k + 1) bytes
drop_at s bytes k low e =
    let here : drop k bytes ≡ slice_index bytes k ∷ drop (suc k) bytes = drop-cons bytes k 0 low in
    let next : drop (suc k) bytes ≡ drop (k + 1) bytes = ap (λ i. drop i bytes) (suc-eq-add-one k) in
    here ∙ ap (λ x. x ∷ drop (suc k) bytes) (eqb-true (slice_index bytes k) s e) ∙ ap (λ xs. s ∷ xs) next

pub cut_found : (s : ℕ) (bytes : List ℕ) (k : ℕ) → IsFirstByte (is_byte s) bytes (Some k) → IsCut s bytes (take k bytes) (drop (k + 1) bytes)
cut_found s bytes k h =
    let at = found_at s bytes k h in
    let before : take k bytes ≡ before_first (is_byte s) bytes = ap (λ i. take i bytes) (sym at) in
    let after : drop (k + 1) bytes ≡ after_first (is_byte s) bytes = ap (λ i. drop (i + 1) bytes) (sym at) in
    let inside : position_or_len (is_byte s) bytes < length bytes = rw at h.0.high in
    let low : k < length bytes = h.0.high in
    record {
      before_is = before;
      after_is = after;
      from = ap (λ i. drop i bytes) at ∙ drop_at s bytes k low h.1;
      parts = slice_split_first (is_byte s) bytes 0 inside ∙ ap (λ x. x ∷ slice_split (is_byte s) (after_first (is_byte s) bytes)) (sym before)
          ∙ ap (λ y. take k bytes ∷ slice_split (is_byte s) y) (sym after);
      shorter = omega (arith, length-drop (k + 1) bytes);
    }

pub one_part : (s : ℕ) (bytes : List ℕ) → IsFirstByte (is_byte s) bytes None → IsOnePart s bytes
one_part s bytes h =
    let at = found_nowhere s bytes h in record {
      before = ap (λ i. take i bytes) at ∙ take-length bytes;
      after = ap (λ i. drop (i + 1) bytes) at ∙ drop_all (length bytes + 1) bytes (omega arith);
      parts = slice_split_none (is_byte s) bytes (λ j d lt. fails_before_first (is_byte s) bytes j d (rw at lt));
    }
