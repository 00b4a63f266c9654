-- Occurrences in a list by those in its parts, and by blocks.
use Rattle.std.proofs.Common.{◌≡◌, ℕ, ◌+◌, ◌-◌, ◌<◌, ◌≤◌, ◌==◌, zero, suc, Bool, true, false, if◌then◌else◌, List, [], ◌∷◌, ◌++◌, Option, Some, None, IfSome, length, take, drop, refl, sym, ap, subst, ◌∙◌, arith, inl, inr, add-one, zero-add, get_or}
use Rattle.std.specs.List.{count_by, flat_map, sum, sum_by}
use Rattle.std.proofs.lemmas.Bool.{cases_Bool}
use Rattle.std.proofs.lemmas.List.{take-append-drop, drop_more, take-map, take-append-le, drop-drop, length-take-le, length-drop}
use Rattle.std.proofs.lemmas.List.Sums.{sum_by-cons, sum_by-append, sum-map}
use Rattle.milter_field_index.specs.Blocks.{joined, lengths, at, count_of, counts, IsPlace}
use Rattle.milter_field_index.specs.Occurrence.{later, shifted, nth}
use Rattle.milter_field_index.proofs.Joins.{parts, before, place_within}

-- ---- shifted positions

pub shifted-some : (i n : ℕ) → shifted i (Some n) ≡ Some (i + n)
shifted-some zero n = ap Some (sym (zero-add n))
shifted-some (suc i) n =
    let e : suc (i + n) ≡ suc i + n = omega arith in
    ap later (shifted-some i n) ∙ ap Some e

pub shifted-none : (i : ℕ) → shifted i None ≡ None
shifted-none zero = refl
shifted-none (suc i) = ap later (shifted-none i)

pub shifted-later : (i : ℕ) (found : Option ℕ) → shifted i (later found) ≡ later (shifted i found)
shifted-later zero found = refl
shifted-later (suc i) found = ap later (shifted-later i found)

pub shifted-add : (i j : ℕ) (found : Option ℕ) → shifted i (shifted j found) ≡ shifted (i + j) found
shifted-add zero j found = ap (λ n. shifted n found) (sym (zero-add j))
shifted-add (suc i) j found =
    let e : suc (i + j) ≡ suc i + j = omega arith in
    ap later (shifted-add i j found) ∙ ap (λ n. shifted n found) e

-- ---- in lists one after the other

pub nth-other : {X : Type 0} (test : X → Bool) (j : ℕ) (x : X) (xs : List X) → test x ≡ false
    → nth test j (x ∷ xs) ≡ later (nth test j xs)
nth-other test zero x xs e = rw e refl
nth-other test (suc j) x xs e = rw e refl

pub nth-same : {X : Type 0} (test : X → Bool) (j : ℕ) (x : X) (xs : List X) → test x ≡ true
    → nth test (suc j) (x ∷ xs) ≡ later (nth test j xs)
nth-same test j x xs e = rw e refl

pub nth-first : {X : Type 0} (test : X → Bool) (x : X) (xs : List X) → test x ≡ true
    → nth test zero (x ∷ xs) ≡ Some zero
nth-first test x xs e = rw e refl

pub count-same : {X : Type 0} (test : X → Bool) (x : X) (xs : List X) → test x ≡ true
    → count_by test (x ∷ xs) ≡ 1 + count_by test xs
count-same test x xs e = sum_by-cons (λ y. if test y then 1 else 0) x xs ∙ rw e refl

pub count-other : {X : Type 0} (test : X → Bool) (x : X) (xs : List X) → test x ≡ false
    → count_by test (x ∷ xs) ≡ count_by test xs
count-other test x xs e = sum_by-cons (λ y. if test y then 1 else 0) x xs ∙ rw e (omega arith)

pub nth-left : {X : Type 0} (test : X → Bool) (j : ℕ) (xs ys : List X) → j < count_by test xs
    → nth test j (xs ++ ys) ≡ nth test j xs
nth-left test j [] ys h = absurd (omega (arith, h))
nth-left test zero (x ∷ xs) ys h =
    elim (cases_Bool (test x)) [
      | inl e ↦ nth-first test x (xs ++ ys) e ∙ sym (nth-first test x xs e)
      | inr e ↦ nth-other test zero x (xs ++ ys) e
          ∙ ap later (nth-left test zero xs ys (omega (arith, h, count-other test x xs e)))
          ∙ sym (nth-other test zero x xs e)
    ]
nth-left test (suc j) (x ∷ xs) ys h =
    elim (cases_Bool (test x)) [
      | inl e ↦ nth-same test j x (xs ++ ys) e
          ∙ ap later (nth-left test j xs ys (omega (arith, h, count-same test x xs e))) ∙ sym (nth-same test j x xs e)
      | inr e ↦ nth-other test (suc j) x (xs ++ ys) e
          ∙ ap later (nth-left test (suc j) xs ys (omega (arith, h, count-other test x xs e)))
          ∙ sym (nth-other test (suc j) x xs e)
    ]

pub nth-right : {X : Type 0} (test : X → Bool) (j : ℕ) (xs ys : List X)
    → nth test (count_by test xs + j) (xs ++ ys) ≡ shifted (length xs) (nth test j ys)
nth-right test j [] ys = ap (λ n. nth test n ys) (zero-add j)
nth-right test j (x ∷ xs) ys =
    let ih = ap later (nth-right test j xs ys) in
    elim (cases_Bool (test x)) [
      | inl e ↦
          let k : count_by test (x ∷ xs) + j ≡ suc (count_by test xs + j) = omega (arith, count-same test x xs e) in
          ap (λ i. nth test i (x ∷ (xs ++ ys))) k ∙ nth-same test (count_by test xs + j) x (xs ++ ys) e ∙ ih
      | inr e ↦
          ap (λ i. nth test (i + j) (x ∷ (xs ++ ys))) (count-other test x xs e)
          ∙ nth-other test (count_by test xs + j) x (xs ++ ys) e ∙ ih
    ]

pub nth_past : {X : Type 0} (test : X → Bool) (xs : List X) (j : ℕ) → count_by test xs ≤ j → nth test j xs ≡ None
nth_past test [] j h = refl
nth_past test (x ∷ xs) zero h =
    elim (cases_Bool (test x)) [
      | inl e ↦ absurd (omega (arith, h, count-same test x xs e))
      | inr e ↦ nth-other test zero x xs e
          ∙ ap later (nth_past test xs zero (omega (arith, h, count-other test x xs e)))
    ]
nth_past test (x ∷ xs) (suc j) h =
    elim (cases_Bool (test x)) [
      | inl e ↦ nth-same test j x xs e ∙ ap later (nth_past test xs j (omega (arith, h, count-same test x xs e)))
      | inr e ↦ nth-other test (suc j) x xs e
          ∙ ap later (nth_past test xs (suc j) (omega (arith, h, count-other test x xs e)))
    ]

-- ---- a loop that looks for one

pub nth_more-same : {X : Type 0} (test : X → Bool) (xs : List X) (i left : ℕ) (d : X) → i < length xs
    → test (get_or xs i d) ≡ true → 0 < left
    → shifted i (nth test left (drop i xs)) ≡ shifted (i + 1) (nth test (left - 1) (drop (i + 1) xs))
nth_more-same test xs i left d within e some =
    let n : left ≡ suc (left - 1) = omega (arith, some) in
    ap (λ l. shifted i (nth test left l)) (drop_more xs i d within)
    ∙ ap (λ m. shifted i (nth test m (get_or xs i d ∷ drop (i + 1) xs))) n
    ∙ ap (shifted i) (nth-same test (left - 1) (get_or xs i d) (drop (i + 1) xs) e)
    ∙ shifted-later i (nth test (left - 1) (drop (i + 1) xs))
    ∙ ap (λ m. shifted m (nth test (left - 1) (drop (i + 1) xs))) (sym (add-one i))

pub nth_more-other : {X : Type 0} (test : X → Bool) (xs : List X) (i left : ℕ) (d : X) → i < length xs
    → test (get_or xs i d) ≡ false → shifted i (nth test left (drop i xs)) ≡ shifted (i + 1)
    (nth test left (drop (i + 1) xs))
nth_more-other test xs i left d within e =
    ap (λ l. shifted i (nth test left l)) (drop_more xs i d within)
    ∙ ap (shifted i) (nth-other test left (get_or xs i d) (drop (i + 1) xs) e)
    ∙ shifted-later i (nth test left (drop (i + 1) xs))
    ∙ ap (λ m. shifted m (nth test left (drop (i + 1) xs))) (sym (add-one i))

pub nth_here : {X : Type 0} (test : X → Bool) (xs : List X) (i left : ℕ) (d : X) → i < length xs
    → test (get_or xs i d) ≡ true → left ≡ 0 → shifted i (nth test left (drop i xs)) ≡ Some i
nth_here test xs i left d within e none =
    let same : i + 0 ≡ i = omega arith in
    ap (λ l. shifted i (nth test left l)) (drop_more xs i d within)
    ∙ ap (λ m. shifted i (nth test m (get_or xs i d ∷ drop (i + 1) xs))) none
    ∙ ap (shifted i) (nth-first test (get_or xs i d) (drop (i + 1) xs) e) ∙ shifted-some i 0 ∙ ap Some same

-- a part of the list without so many
pub nth_more-part : {X : Type 0} (test : X → Bool) (xs : List X) (i n left : ℕ) → i + n ≤ length xs
    → count_by test (take n (drop i xs)) ≤ left
    → shifted i (nth test left (drop i xs)) ≡ shifted (i + n)
    (nth test (left - count_by test (take n (drop i xs))) (drop (i + n) xs))
nth_more-part test xs i n left within most =
    let part = take n (drop i xs) in
    let rest = drop (i + n) xs in
    let whole : drop i xs ≡ part ++ rest = sym (take-append-drop n (drop i xs))
    ∙ ap (λ l. part ++ l) (drop-drop n i xs) in
    let len : length part ≡ n = length-take-le n (drop i xs) (omega (arith, length-drop i xs, within)) in
    let number : left ≡ count_by test part + (left - count_by test part) = omega (arith, most) in
    ap (λ l. shifted i (nth test left l)) whole
    ∙ ap (λ m. shifted i (nth test m (part ++ rest))) number
    ∙ ap (shifted i) (nth-right test (left - count_by test part) part rest)
    ∙ ap (λ m. shifted i (shifted m (nth test (left - count_by test part) rest))) len
    ∙ shifted-add i n (nth test (left - count_by test part) rest)

-- ---- in blocks

pub count-flat : {A : Type 0} (test : A → Bool) (bs : List (List A))
    → count_by test (flat_map (λ b. b) bs) ≡ sum_by (λ b. count_by test b) bs
count-flat test [] = refl
count-flat test (b ∷ bs) =
    sum_by-append (λ y. if test y then 1 else 0) b (flat_map (λ c. c) bs)
    ∙ ap (λ n. count_by test b + n) (count-flat test bs)
    ∙ sym (sum_by-cons (λ c. count_by test c) b bs)

pub count-before : (symbol : ℕ) (bs : List (List ℕ)) (t : ℕ)
    → count_of symbol (joined (take t bs)) ≡ sum (take t (counts symbol bs))
count-before symbol bs t =
    count-flat (λ (n : ℕ). n == symbol) (take t bs)
    ∙ sym (sum-map (λ (b : List ℕ). count_of symbol b) (take t bs))
    ∙ ap sum (sym (take-map (λ (b : List ℕ). count_of symbol b) t bs))

pub count-total : (symbol : ℕ) (bs : List (List ℕ)) → sum (counts symbol bs) ≡ count_of symbol (joined bs)
count-total symbol bs = sum-map (λ (b : List ℕ). count_of symbol b) bs ∙ sym (count-flat (λ (n : ℕ). n == symbol) bs)

take_past : {X : Type 0} (xs ys : List X) (n : ℕ) → take (length xs + n) (xs ++ ys) ≡ xs ++ take n ys
take_past [] ys n = ap (λ i. take i ys) (zero-add n)
take_past (x ∷ xs) ys n =
    let e : length (x ∷ xs) + n ≡ suc (length xs + n) = omega arith in
    ap (λ i. take i (x ∷ (xs ++ ys))) e ∙ ap (λ l. x ∷ l) (take_past xs ys n)

-- the occurrence by the row of counts, and then in its block
pub nth-blocks : (symbol : ℕ) (bs : List (List ℕ)) (t o j : ℕ) → t < length bs
    → sum (take t (counts symbol bs)) + o ≡ j → o < count_of symbol (at bs t)
    → nth (λ n. n == symbol) j (joined bs) ≡ shifted (sum (take t (lengths bs))) (nth (λ n. n == symbol) o (at bs t))
nth-blocks symbol bs t o j within adds_up low =
    let test = λ (n : ℕ). n == symbol in
    let p = joined (take t bs) in
    let rest = joined (drop (t + 1) bs) in
    let n = count-before symbol bs t in
    let number : j ≡ count_by test p + o = omega (arith, n, adds_up) in
    ap (λ l. nth test j l) (parts bs t within)
    ∙ ap (λ i. nth test i (p ++ (at bs t ++ rest))) number
    ∙ nth-right test o p (at bs t ++ rest)
    ∙ ap (λ found. shifted (length p) found) (nth-left test o (at bs t) rest low)
    ∙ ap (λ i. shifted i (nth test o (at bs t))) (before bs t)

-- how often it comes before a position: in the blocks before, and before it in its block
pub count-blocks : (symbol : ℕ) (bs : List (List ℕ)) (t o k : ℕ) → IsPlace (lengths bs) t o k → o ≤ length (at bs t)
    → count_of symbol (take k (joined bs)) ≡ sum (take t (counts symbol bs)) + count_of symbol (take o (at bs t))
count-blocks symbol bs t o k place low =
    let test = λ (n : ℕ). n == symbol in
    let within = place_within bs t o k place in
    let p = joined (take t bs) in
    let rest = joined (drop (t + 1) bs) in
    let n = before bs t in
    let k_is : k ≡ length p + o = omega (arith, n, place.adds_up) in
    ap (λ l. count_by test (take k l)) (parts bs t within)
    ∙ ap (λ i. count_by test (take i (p ++ (at bs t ++ rest)))) k_is
    ∙ ap (λ l. count_by test l) (take_past p (at bs t ++ rest) o)
    ∙ ap (λ l. count_by test (p ++ l)) (take-append-le o (at bs t) rest low)
    ∙ sum_by-append (λ y. if test y then 1 else 0) p (take o (at bs t))
    ∙ ap (λ i. i + count_by test (take o (at bs t))) (count-before symbol bs t)

-- ---- where an occurrence is

later-below : (found : Option ℕ) (n : ℕ) → IfSome found (λ i. i < n) → IfSome (later found) (λ i. i < suc n)
later-below None n h = h
later-below (Some i) n h = omega (arith, h)

pub nth-below : {X : Type 0} (test : X → Bool) (j : ℕ) (xs : List X) → IfSome (nth test j xs) (λ i. i < length xs)
nth-below test j [] = tt
nth-below test zero (x ∷ xs) =
    let P : Option ℕ → Type 0 = λ r. IfSome r (λ i. i < suc (length xs)) in
    elim (cases_Bool (test x)) [
      | inl e ↦ subst P (sym (nth-first test x xs e)) (omega arith)
      | inr e ↦ subst P (sym (nth-other test zero x xs e))
          (later-below (nth test zero xs) (length xs) (nth-below test zero xs))
    ]
nth-below test (suc j) (x ∷ xs) =
    let P : Option ℕ → Type 0 = λ r. IfSome r (λ i. i < suc (length xs)) in
    elim (cases_Bool (test x)) [
      | inl e ↦ subst P (sym (nth-same test j x xs e)) (later-below (nth test j xs) (length xs) (nth-below test j xs))
      | inr e ↦ subst P (sym (nth-other test (suc j) x xs e))
          (later-below (nth test (suc j) xs) (length xs) (nth-below test (suc j) xs))
    ]
