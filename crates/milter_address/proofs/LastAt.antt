-- The bytes behind the last `@`, as a search for it finds it.
use Rattle.std.proofs.Common.{◌≡◌, ◌<◌, ◌+◌, ◌-◌, ℕ, List, [], length, drop, Some, None, Bool, true, false, arith, sym, ◌∙◌, refl, get_or}
use Rattle.std.specs.Prelude.{not}
use Rattle.std.specs.List.{list_any, suffix_len}
use Rattle.std.proofs.lemmas.Bool.{false_from_ne_true, not_from_true}
use Rattle.std.proofs.lemmas.Grind.{get_or_default_zero}
use Rattle.std.proofs.lemmas.List.Folds.{Any-from_list_any, list_any_at}
use Rattle.std.proofs.lemmas.List.Sums.{suffix_len_is}
use Rattle.memchr.specs.Find.{IsLastByte, is_byte}
use Rattle.milter_address.specs.Address.{behind_last_at}
use Rattle.milter_address.specs.Bytes.{is_at}

not_from_false : (b : Bool) → b ≡ false → not b ≡ true
not_from_false b e = rw e refl

some_suffix : (bytes : List ℕ) (k : ℕ) → IsLastByte (is_byte 64) bytes (Some k) → suffix_len (λ x. not (is_at x)) bytes ≡ length bytes - (k + 1)
some_suffix bytes k h =
    let high : k < length bytes = h.0.high in
    let before : k + 1 - 1 ≡ k = omega arith in
    suffix_len_is (λ x. not (is_at x)) bytes (k + 1) 0 (omega arith)
    (λ j low lt. not_from_false (is_at (get_or bytes j 0)) (false_from_ne_true (is_at (get_or bytes j 0)) (h.0.after j low lt)))
    (λ _. rw before (not_from_true (is_at (get_or bytes k 0)) h.1))

pub behind_found : (bytes : List ℕ) (k : ℕ) → IsLastByte (is_byte 64) bytes (Some k) → drop (k + 1) bytes ≡ behind_last_at bytes
behind_found bytes k h =
    let high : k < length bytes = h.0.high in
    let some : list_any is_at bytes ≡ true = list_any_at is_at bytes k 0 high h.1 in
    let start : length bytes - (length bytes - (k + 1)) ≡ k + 1 = omega arith in
    rw (some, some_suffix bytes k h, start) refl

no_at : (bytes : List ℕ) → IsLastByte (is_byte 64) bytes None → (b : Bool) → list_any is_at bytes ≡ b → list_any is_at bytes ≡ false
no_at bytes h false e = e
no_at bytes h true e =
    let some = Any-from_list_any is_at bytes e in
    let here : get_or bytes some.0 0 ≡ some.1 = sym (get_or_default_zero bytes some.0 some.1 some.2) ∙ some.3 in
    absurd (h some.0 (omega arith) some.2 (rw here some.4))

pub behind_nowhere : (bytes : List ℕ) → IsLastByte (is_byte 64) bytes None → ◌≡◌ {A = List ℕ} [] (behind_last_at bytes)
behind_nowhere bytes h = rw (no_at bytes h (list_any is_at bytes) refl) refl
