-- A text occurs where its first byte is.
use Rattle.std.proofs.Common.{◌≡◌, ℕ, zero, suc, ◌<◌, ◌≤◌, false, eqb, List, [], ◌∷◌, ◌||◌, ◌&&◌, length, take, drop, get_or, refl, sym, ap, ◌∙◌, arith}
use Rattle.std.specs.Str.{bytes_eq}
use Rattle.std.proofs.lemmas.Bool.{false_from_ne_true, false≢true}
use Rattle.std.proofs.lemmas.List.{drop_all}
use Rattle.std.proofs.lemmas.Slice.Eq.{bytes_eq-Decides}
use Rattle.milter_filter_search.specs.Texts.{begins_with, contains}

abbrev NoneBefore : ℕ → ℕ → List ℕ → Type 0
NoneBefore first count bytes = (i : ℕ) → i < count → eqb (get_or bytes i 0) first ≡ false

-- a text doesn't occur before the byte that it begins with
pub skipped : (first : ℕ) (tail bytes : List ℕ) (count : ℕ) → count ≤ length bytes → NoneBefore first count bytes
    → contains (drop count bytes) (first ∷ tail) ≡ contains bytes (first ∷ tail)
skipped first tail bytes zero within other = refl
skipped first tail [] (suc count) within other = absurd (omega arith)
skipped first tail (byte ∷ bytes) (suc count) within other =
    skipped first tail bytes count (omega arith) (λ i lt. other (suc i) (omega arith))
    ∙ ap (λ same. (same && bytes_eq (take (length tail) bytes) tail) || contains bytes (first ∷ tail)) (sym (other 0 (omega arith)))

pub nowhere : (first : ℕ) (tail bytes : List ℕ) → NoneBefore first (length bytes) bytes → contains [] (first ∷ tail) ≡ contains bytes (first ∷ tail)
nowhere first tail bytes other =
    ap (λ rest. contains rest (first ∷ tail)) (sym (drop_all (length bytes) bytes (omega arith))) ∙ skipped first tail bytes (length bytes) (omega arith) other

-- bytes that don't begin with a text have it where those after the first have it
pub later : (bytes text : List ℕ) → begins_with bytes text ≡ false → contains (drop 1 bytes) text ≡ contains bytes text
later [] text other = refl
later (byte ∷ bytes) text other = rw other refl

-- a comparison with the first bytes, the other way round
pub other_way : (bytes text : List ℕ) → bytes_eq text (take (length text) bytes) ≡ false → begins_with bytes text ≡ false
other_way bytes text differ =
    let first = take (length text) bytes in
    false_from_ne_true (begins_with bytes text)
    (λ same. false≢true (sym differ ∙ (bytes_eq-Decides text first).1 (sym ((bytes_eq-Decides first text).0 same))))
