-- Lists joined from blocks, and what an edit of one block makes of the whole.
use Rattle.std.proofs.Common.{◌≡◌, ℕ, ◌+◌, ◌-◌, ◌<◌, ◌≤◌, zero, suc, List, [], ◌∷◌, ◌++◌, Some, None, add-one, length, map, take, drop, get_or, set, refl, sym, ap, ◌∙◌, arith, append_assoc, length-append}
use Rattle.std.specs.List.{insert, remove, sum, slice_get}
use Rattle.std.proofs.lemmas.List.{take-append-drop, drop_more, set_split, take-map, drop-map, length-map, map-append}
use Rattle.std.proofs.lemmas.List.Concat.{flat_map-append, length-flat_map, get_or-flat_map}
use Rattle.std.proofs.lemmas.List.Sums.{sum-map}
use Rattle.std.proofs.lemmas.List.Edits.{insert-append_left, insert-append_right, remove-append_left, remove-append_right}
use Rattle.std.proofs.lemmas.Option.{slice_get-get_or, slice_get_past}
use Rattle.milter_field_index.specs.Blocks.{joined, lengths, at, halved, insert_in, remove_in, IsPlace}

-- the whole about one block
pub parts : (bs : List (List ℕ)) (t : ℕ) → t < length bs
    → joined bs ≡ joined (take t bs) ++ (at bs t ++ joined (drop (t + 1) bs))
parts bs t within =
    ap joined (sym (take-append-drop t bs))
    ∙ flat_map-append (λ (b : List ℕ). b) (take t bs) (drop t bs)
    ∙ ap (λ rest. joined (take t bs) ++ joined rest) (drop_more bs t [] within)

-- a block is no longer than the whole
pub block-le_joined : (bs : List (List ℕ)) (t : ℕ) → t < length bs → length (at bs t) ≤ length (joined bs)
block-le_joined bs t within =
    let rest = joined (drop (t + 1) bs) in
    omega (
      arith,
      ap length (parts bs t within),
      length-append (joined (take t bs)) (at bs t ++ rest),
      length-append (at bs t) rest,
    )

pub parts-set : (bs : List (List ℕ)) (t : ℕ) (b : List ℕ) → t < length bs
    → joined (set bs t b) ≡ joined (take t bs) ++ (b ++ joined (drop (t + 1) bs))
parts-set bs t b within =
    ap joined (set_split bs t b within)
    ∙ flat_map-append (λ (c : List ℕ). c) (take t bs) (b ∷ drop (suc t) bs)
    ∙ ap (λ n. joined (take t bs) ++ (b ++ joined (drop n bs))) (sym (add-one t))

-- how many come before a block
pub before : (bs : List (List ℕ)) (t : ℕ) → length (joined (take t bs)) ≡ sum (take t (lengths bs))
before bs t =
    length-flat_map (λ (b : List ℕ). b) (take t bs)
    ∙ sym (sum-map (λ (b : List ℕ). length b) (take t bs))
    ∙ ap sum (sym (take-map (λ (b : List ℕ). length b) t bs))

-- the lengths of the blocks are that of the whole
pub total : (bs : List (List ℕ)) → sum (lengths bs) ≡ length (joined bs)
total bs = sum-map (λ (b : List ℕ). length b) bs ∙ sym (length-flat_map (λ (b : List ℕ). b) bs)

pub place_within : (bs : List (List ℕ)) (t o k : ℕ) → IsPlace (lengths bs) t o k → t < length bs
place_within bs t o k p = omega (arith, p.within, length-map bs (λ (b : List ℕ). length b))

-- one more in a block is one more in the whole
pub inserted-in : (bs : List (List ℕ)) (t o k x : ℕ) → IsPlace (lengths bs) t o k → o ≤ length (at bs t)
    → joined (insert_in bs t o x) ≡ insert (joined bs) k x
inserted-in bs t o k x place low =
    let within = place_within bs t o k place in
    let p = joined (take t bs) in
    let old = at bs t in
    let rest = joined (drop (t + 1) bs) in
    let n : length p ≡ sum (take t (lengths bs)) = before bs t in
    let offset : k - length p ≡ o = omega (arith, n, place.adds_up) in
    let reaches : length p ≤ k = omega (arith, n, place.adds_up) in
    parts-set bs t (insert old o x) within
    ∙ ap (λ y. p ++ y) (sym (insert-append_left old rest o x low))
    ∙ ap (λ j. p ++ insert (old ++ rest) j x) (sym offset)
    ∙ sym (insert-append_right p (old ++ rest) (length p) k x refl reaches)
    ∙ ap (λ y. insert y k x) (sym (parts bs t within))

-- one fewer in a block is one fewer in the whole
pub removed-in : (bs : List (List ℕ)) (t o k : ℕ) → IsPlace (lengths bs) t o k → o < length (at bs t)
    → joined (remove_in bs t o) ≡ remove (joined bs) k
removed-in bs t o k place low =
    let within = place_within bs t o k place in
    let p = joined (take t bs) in
    let old = at bs t in
    let rest = joined (drop (t + 1) bs) in
    let n : length p ≡ sum (take t (lengths bs)) = before bs t in
    let offset : k - length p ≡ o = omega (arith, n, place.adds_up) in
    let reaches : length p ≤ k = omega (arith, n, place.adds_up) in
    parts-set bs t (remove old o) within
    ∙ ap (λ y. p ++ y) (sym (remove-append_left old rest o low))
    ∙ ap (λ j. p ++ remove (old ++ rest) j) (sym offset)
    ∙ sym (remove-append_right p (old ++ rest) (length p) k refl reaches)
    ∙ ap (λ y. remove y k) (sym (parts bs t within))

-- what is at a place of its block is there in the whole
pub read-in : (bs : List (List ℕ)) (t o k : ℕ) → IsPlace (lengths bs) t o k → o < length (at bs t)
    → slice_get (joined bs) k ≡ Some (get_or (at bs t) o 0)
read-in bs t o k place low =
    let within = place_within bs t o k place in
    let whole = joined bs in
    let n : length (joined (take t bs)) ≡ sum (take t (lengths bs)) = before bs t in
    let k_is : length (joined (take t bs)) + o ≡ k = omega (arith, n, place.adds_up) in
    let len : length whole ≡ length (joined (take t bs)) + (length (at bs t) + length (joined (drop (t + 1) bs))) =
    ap length (parts bs t within) ∙ length-append (joined (take t bs)) (at bs t ++ joined (drop (t + 1) bs))
    ∙ ap (λ m. length (joined (take t bs)) + m) (length-append (at bs t) (joined (drop (t + 1) bs))) in
    let inside : k < length whole = omega (arith, len, k_is, low) in
    slice_get-get_or whole k 0 inside
    ∙ ap Some (ap (λ j. get_or whole j 0) (sym k_is) ∙ get_or-flat_map (λ (b : List ℕ). b) bs t o [] 0 within low)

pub past-blocks : (bs : List (List ℕ)) (k : ℕ) → length (joined bs) ≤ k → slice_get (joined bs) k ≡ None
past-blocks bs k past = slice_get_past (joined bs) k past

-- a place in a block is one among all
pub place_below : (bs : List (List ℕ)) (t o k : ℕ) → IsPlace (lengths bs) t o k → o < length (at bs t)
    → k < length (joined bs)
place_below bs t o k place low =
    let within = place_within bs t o k place in
    let n : length (joined (take t bs)) ≡ sum (take t (lengths bs)) = before bs t in
    omega (
      arith,
      n,
      place.adds_up,
      low,
      ap length (parts bs t within),
      length-append (joined (take t bs)) (at bs t ++ joined (drop (t + 1) bs)),
      length-append (at bs t) (joined (drop (t + 1) bs)),
    )

-- ---- two blocks of one

pub map-halved : {A B : Type 0} (f : A → B) (xs : List A) (t : ℕ) (low high : A)
    → map f (halved t low high xs) ≡ halved t (f low) (f high) (map f xs)
map-halved f xs t low high =
    map-append f (take t xs) (low ∷ high ∷ drop (t + 1) xs)
    ∙ ap (λ l. l ++ f low ∷ f high ∷ map f (drop (t + 1) xs)) (sym (take-map f t xs))
    ∙ ap (λ l. take t (map f xs) ++ f low ∷ f high ∷ l) (sym (drop-map f (t + 1) xs))

-- as it comes about in place
pub halved-set : {A : Type 0} (xs : List A) (t : ℕ) (low high : A) → t < length xs
    → set (insert xs (t + 1) high) t low ≡ halved t low high xs
halved-set [] t low high within = absurd (omega (arith, within))
halved-set (x ∷ xs) zero low high within = refl
halved-set (x ∷ xs) (suc t) low high within =
    let e : suc t + 1 ≡ suc (t + 1) = omega arith in
    ap (λ n. set (insert (x ∷ xs) n high) (suc t) low) e
    ∙ ap (λ l. x ∷ l) (halved-set xs t low high (omega (arith, within)))
    ∙ ap (λ n. take (suc t) (x ∷ xs) ++ low ∷ high ∷ drop n (x ∷ xs)) (sym e)

pub joined-halved : (bs : List (List ℕ)) (t : ℕ) (low high : List ℕ) → t < length bs → low ++ high ≡ at bs t
    → joined (halved t low high bs) ≡ joined bs
joined-halved bs t low high within e =
    let rest = joined (drop (t + 1) bs) in
    flat_map-append (λ (b : List ℕ). b) (take t bs) (low ∷ high ∷ drop (t + 1) bs)
    ∙ ap (λ l. joined (take t bs) ++ l) (sym (append_assoc low high rest) ∙ ap (λ l. l ++ rest) e)
    ∙ sym (parts bs t within)
